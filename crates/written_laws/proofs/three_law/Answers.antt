use Rattle.written_laws.proofs.Shape.{three_law}

pub returns : Rattle.written_laws.proofs.three_law.Goals.returns
returns c = three_law
