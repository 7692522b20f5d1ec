use Rattle.feature_laws.proofs.Arcs.{marked_arc_law}

pub returns : Rattle.feature_laws.proofs.marked_arc_law.Goals.returns
returns c = marked_arc_law
