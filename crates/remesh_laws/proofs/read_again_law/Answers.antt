use Rattle.remesh_laws.proofs.ReadAgain.{read_again_law}

pub returns : Rattle.remesh_laws.proofs.read_again_law.Goals.returns
returns c = read_again_law
