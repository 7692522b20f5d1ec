use Rattle.forest_laws.proofs.Shifts.{shift_valid}

pub returns : Rattle.forest_laws.proofs.steps.shift_law.Goals.returns
returns c = λ g f root t are valid feasible. shift_valid are valid t feasible
