use Rattle.{std.proofs.Common.arith, qm_stitch.proofs.DoubledPairs.told_next, qm_stitch.proofs.DoubledPairs.told_none}
use Rattle.qm_stitch.proofs.cheapest.mark_firsts.Goals as goal

pub loop-k-init : goal.loop-k-init
loop-k-init c arc low = told_none (λ is. omega arith)

pub loop-k-preserved : goal.loop-k-preserved
loop-k-preserved c arc low = told_next _ (c.loop-k.invariant arc low) (c.mark_first.ensures arc (omega arith))
