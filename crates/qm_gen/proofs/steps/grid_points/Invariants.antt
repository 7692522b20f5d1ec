use Rattle.std.specs.List.{flat_map, range_with_len}
use Rattle.{std.proofs.Common.◌≡◌, def_gen.specs.Steps.row_points}

abbrev pub invariant-loop-y : Rattle.qm_gen.proofs.steps.grid_points.Given.invariant-loop-y
invariant-loop-y l = l.points.items ≡ flat_map (row_points l.n) (range_with_len 0 l.y)
