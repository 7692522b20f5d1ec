use Rattle.map_laws.proofs.SpotPlaces.{spot_law}

pub returns : Rattle.map_laws.proofs.spot_law.Goals.returns
returns c = spot_law
