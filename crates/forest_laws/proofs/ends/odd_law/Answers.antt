use Rattle.forest_laws.proofs.Odds.{odd_blossom}

pub returns : Rattle.forest_laws.proofs.ends.odd_law.Goals.returns
returns c = λ g f b are nested used. odd_blossom are nested b used
