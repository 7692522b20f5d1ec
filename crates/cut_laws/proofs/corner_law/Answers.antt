use Rattle.cut_laws.proofs.Corners.{corner_law}

pub returns : Rattle.cut_laws.proofs.corner_law.Goals.returns
returns c = corner_law
