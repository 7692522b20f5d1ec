use Rattle.{std.proofs.Common.arith, qm_forest.proofs.Expandings.outermost_kept}
use Rattle.qm_forest.proofs.forest.Forest.leave.Goals as goal

pub leader-v-requires : goal.leader-v-requires
leader-v-requires c = outermost_kept
    c.loop.invariant.same c.loop.invariant.here (c.requires c.loop.counter (omega (arith, c.loop-test.true)))
