use Rattle.def_forest.specs.{Darts.darts_of, Tables.forest_of}
use Rattle.{std.proofs.Common.◌+◌, std.proofs.Common.◌-◌, forest_laws.specs.Climbing.IsClimbing}
use Rattle.qm_forest.proofs.forest.Forest.fork.Given as goal

abbrev pub invariant-loop-x : goal.invariant-loop-x
invariant-loop-x l = IsClimbing (darts_of l.g.graph) (forest_of l.self) l.a l.c l.x l.y l.left l.right

abbrev pub decreases-loop-x : goal.decreases-loop-x
decreases-loop-x l = (l.high - l.left) + (l.low - l.right)
