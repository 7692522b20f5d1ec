use Rattle.std.proofs.Common.{◌≡◌, ◌++◌, map}
use Rattle.{std.specs.List.range_with_len, def_gen.specs.Steps.whole_point}

abbrev pub invariant-loop-x : Rattle.qm_gen.proofs.steps.push_points.Given.invariant-loop-x
invariant-loop-x l = l.points.items ≡ l.fn.points.items ++ map (λ x. whole_point x l.y) (range_with_len 0 l.x)
