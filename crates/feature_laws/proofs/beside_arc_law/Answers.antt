use Rattle.feature_laws.proofs.Arcs.{beside_arc_law}

pub returns : Rattle.feature_laws.proofs.beside_arc_law.Goals.returns
returns c = beside_arc_law
