use Rattle.written_laws.proofs.Spacings.{even_law}

pub returns : Rattle.written_laws.proofs.even_law.Goals.returns
returns c = even_law
