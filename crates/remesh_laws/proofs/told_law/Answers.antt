use Rattle.remesh_laws.proofs.ReadAgain.{told_law}

pub returns : Rattle.remesh_laws.proofs.told_law.Goals.returns
returns c = told_law
