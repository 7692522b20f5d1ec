use Rattle.def_forest.specs.{Darts.darts_of, Tables.forest_of}
use Rattle.{forest_laws.specs.Climbing.level_of, qm_forest.specs.Rings.HasClimbed}
use Rattle.qm_forest.proofs.forest.Forest.steps_to.Given as goal

abbrev pub invariant-loop-at : goal.invariant-loop-at
invariant-loop-at l = HasClimbed (darts_of l.g.graph) (forest_of l.self) l.b l.at l.count

abbrev pub decreases-loop-at : goal.decreases-loop-at
decreases-loop-at l = level_of (darts_of l.g.graph) (forest_of l.self) l.at
