use Rattle.forest_laws.proofs.Grows.{grown_valid}

pub returns : Rattle.forest_laws.proofs.steps.grow_law.Goals.returns
returns c = λ g f root d m are valid reach mate. grown_valid g are f root valid d m reach mate
