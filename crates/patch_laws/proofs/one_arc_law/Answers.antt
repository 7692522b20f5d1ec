use Rattle.patch_laws.proofs.Chosen.{one_arc_law}

pub returns : Rattle.patch_laws.proofs.one_arc_law.Goals.returns
returns c = one_arc_law
