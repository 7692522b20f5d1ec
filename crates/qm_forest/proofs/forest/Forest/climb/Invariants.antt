use Rattle.def_forest.specs.{Darts.darts_of, Tables.forest_of}
use Rattle.{std.proofs.Common.◌≤◌, forest_laws.specs.Climbing.level_of, qm_forest.specs.Rings.HasClimbed}
use Rattle.qm_forest.proofs.forest.Forest.climb.Given as goal

abbrev pub invariant-loop-d : goal.invariant-loop-d
invariant-loop-d l = record {
  climbed : HasClimbed (darts_of l.g.graph) (forest_of l.self) l.b l.at l.count;
  few : l.count ≤ l.most;
}

abbrev pub decreases-loop-d : goal.decreases-loop-d
decreases-loop-d l = level_of (darts_of l.g.graph) (forest_of l.self) l.at
