use Rattle.written_laws.proofs.Between.{between_law}

pub returns : Rattle.written_laws.proofs.between_law.Goals.returns
returns c = between_law
