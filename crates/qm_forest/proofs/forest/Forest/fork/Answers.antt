use Rattle.std.proofs.Common.{◌+◌, ◌≤◌, sym, arith}
use Rattle.def_forest.specs.{Darts.darts_of, Tables.forest_of}
use Rattle.qm_forest.proofs.{Increases.both_hangs, Increases.both_turn, Increases.both_swapped}
use Rattle.qm_forest.proofs.{forest.Forest.fork.Goals.After-above-x}
use Rattle.{forest_laws.specs.Climbing.IsClimbing, forest_laws.proofs.Forks.swapped}
use Rattle.qm_forest.proofs.forest.Forest.fork.Goals as goal

-- The first climber goes on.
gone_on : (c : After-above-x) → IsClimbing (darts_of c.args.g.now.graph) (forest_of c.args.self.now) c.args.a c.args.c
    c.above-x.result c.loop-x.y (c.loop-x.left + 1) c.loop-x.right × (c.loop-x.left + 1 ≤ c.meeting-high.result.0)
gone_on c = both_turn c.args.g.now.small c.requires.valid c.requires.first c.requires.second c.meeting-high.ensures.both
    c.loop-x.invariant c.loop-x-test.true (omega (arith, c.if-high-left.false)) c.above-x.ensures.value

pub above-x-requires : goal.above-x-requires
above-x-requires c = both_hangs c.args.g.now.small c.requires.valid c.requires.first c.requires.second
    c.meeting-high.ensures.both c.loop-x.invariant c.loop-x-test.true (omega (arith, c.if-high-left.false))

pub overflow_add-left : goal.overflow_add-left
overflow_add-left c = omega (arith, (gone_on (goal.at.overflow_add-left c).After-above-x).1)

pub loop-x-preserved : goal.loop-x-preserved
loop-x-preserved c = (gone_on (goal.at.loop-x-preserved c).After-above-x).0

pub loop-x-smaller : goal.loop-x-smaller
loop-x-smaller c = omega (arith, (gone_on (goal.at.loop-x-smaller c).After-above-x).1)

pub above-y-requires : goal.above-y-requires
above-y-requires c = both_hangs c.args.g.now.small c.requires.valid c.requires.second c.requires.first
    (both_swapped c.meeting-high.ensures.both) (swapped c.loop-x.invariant) (λ e. c.loop-x-test.true (sym e))
    (omega (arith, c.if-high-left.true))

pub loop-x-preserved-then-high-left : goal.loop-x-preserved-then-high-left
loop-x-preserved-then-high-left c = swapped (both_turn c.args.g.now.small c.requires.valid c.requires.second
    c.requires.first (both_swapped c.meeting-high.ensures.both) (swapped c.loop-x.invariant)
    (λ e. c.loop-x-test.true (sym e)) (omega (arith, c.if-high-left.true)) c.above-y.ensures.value).0
