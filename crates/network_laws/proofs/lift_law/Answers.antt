use Rattle.network_laws.proofs.Part.{lift_law}

pub returns : Rattle.network_laws.proofs.lift_law.Goals.returns
returns c = lift_law
