use Rattle.network_laws.proofs.Part.{walk_law}

pub returns : Rattle.network_laws.proofs.walk_law.Goals.returns
returns c = walk_law
