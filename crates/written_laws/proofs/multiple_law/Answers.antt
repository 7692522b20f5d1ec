use Rattle.written_laws.proofs.Shape.{multiple_law}

pub returns : Rattle.written_laws.proofs.multiple_law.Goals.returns
returns c = multiple_law
