use Rattle.written_laws.proofs.Shape.{laid_law}

pub returns : Rattle.written_laws.proofs.laid_law.Goals.returns
returns c = laid_law
