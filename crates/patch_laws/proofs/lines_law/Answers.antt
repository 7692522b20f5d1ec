use Rattle.patch_laws.proofs.Chosen.{lines_law}

pub returns : Rattle.patch_laws.proofs.lines_law.Goals.returns
returns c = lines_law
