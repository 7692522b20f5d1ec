use Rattle.forest_laws.proofs.Odds.{large_set}

pub returns : Rattle.forest_laws.proofs.ends.large_law.Goals.returns
returns c = λ g f b are nested high used. large_set are nested b high used
