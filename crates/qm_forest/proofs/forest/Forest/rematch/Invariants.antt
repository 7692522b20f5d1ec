use Rattle.std.proofs.Common.{◌≡◌, ◌+◌}
use Rattle.def_forest.specs.{Darts.darts_of, Tables.forest_of, Ways.steps}
use Rattle.qm_forest.specs.Ties.{IsOnWay, HasSameNest, remated}
use Rattle.qm_forest.proofs.forest.Forest.rematch.Given as goal

abbrev pub invariant-loop-old : goal.invariant-loop-old
invariant-loop-old l = record {
  way : IsOnWay l.g.graph l.fn.self l.start (forest_of l.self).mate l.at l.next;
  seen : forest_of l.self ≡ remated (forest_of l.fn.self) (forest_of l.self).mate;
  same : HasSameNest l.fn.self l.self;
}

abbrev pub decreases-loop-old : goal.decreases-loop-old
decreases-loop-old l = steps (darts_of l.g.graph) (forest_of l.fn.self) ((forest_of l.fn.self).size + 1) l.at
