use Rattle.def_forest.specs.{Darts.darts_of, Tables.forest_of}
use Rattle.{std.proofs.Common.◌≤◌, forest_laws.specs.Climbing.level_of, qm_forest.specs.Rings.HasClimbed}
use Rattle.qm_forest.proofs.forest.Forest.meeting.Given as goal

abbrev pub invariant-loop-right : goal.invariant-loop-right
invariant-loop-right l = record {
  climbed : HasClimbed (darts_of l.g.graph) (forest_of l.self) l.a l.at l.left;
  some : 1 ≤ l.reach;
}

abbrev pub decreases-loop-right : goal.decreases-loop-right
decreases-loop-right l = level_of (darts_of l.g.graph) (forest_of l.self) l.at
