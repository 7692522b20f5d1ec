use Rattle.written_laws.proofs.Spacings.{shared_law}

pub returns : Rattle.written_laws.proofs.shared_law.Goals.returns
returns c = shared_law
