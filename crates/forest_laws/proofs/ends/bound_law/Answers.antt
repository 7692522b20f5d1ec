use Rattle.forest_laws.proofs.Bounds.{sum_bounds}

pub returns : Rattle.forest_laws.proofs.ends.bound_law.Goals.returns
returns c = λ g f root m is valid perfect. sum_bounds is valid.outermost.vertices valid.nested valid.feasible perfect
