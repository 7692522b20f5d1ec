use Rattle.written_laws.proofs.Shape.{numbers_law}

pub returns : Rattle.written_laws.proofs.numbers_law.Goals.returns
returns c = numbers_law
