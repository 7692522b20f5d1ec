use Rattle.patch_laws.proofs.Chosen.{line_arc_law}

pub returns : Rattle.patch_laws.proofs.line_arc_law.Goals.returns
returns c = line_arc_law
