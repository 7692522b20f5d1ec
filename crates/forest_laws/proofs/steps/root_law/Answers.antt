use Rattle.forest_laws.proofs.Grows.{rooted_valid}

pub returns : Rattle.forest_laws.proofs.steps.root_law.Goals.returns
returns c = λ g f b are valid outermost free. rooted_valid are valid b outermost free
