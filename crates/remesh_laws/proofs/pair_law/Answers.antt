use Rattle.remesh_laws.proofs.MarkedLines.{pair_law}

pub returns : Rattle.remesh_laws.proofs.pair_law.Goals.returns
returns c = pair_law
