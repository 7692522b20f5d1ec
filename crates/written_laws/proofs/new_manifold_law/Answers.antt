use Rattle.written_laws.proofs.Shape.{new_manifold_law}

pub returns : Rattle.written_laws.proofs.new_manifold_law.Goals.returns
returns c = new_manifold_law
