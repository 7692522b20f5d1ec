use Rattle.{std.proofs.Common.refl, forest_laws.proofs.Shifts.sum_rises}

pub returns : Rattle.forest_laws.proofs.ends.rise_law.Goals.returns
returns c = λ g f root t are valid. sum_rises are valid (valid.tree root refl) t
