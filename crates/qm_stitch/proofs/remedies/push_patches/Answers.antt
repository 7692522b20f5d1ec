use Rattle.std.proofs.Common.{arith}
use Rattle.qm_stitch.proofs.DoubledPairs.{told_end, told_next, told_none}
use Rattle.qm_stitch.proofs.remedies.push_patches.Goals as goal

pub loop-patch-init : goal.loop-patch-init
loop-patch-init c r = told_none (λ is. omega arith)

pub loop-patch-preserved : goal.loop-patch-preserved
loop-patch-preserved c r = told_next _ (c.loop-patch.invariant r) (c.in_ok-push_sides.ensures r)

pub returns : goal.returns
returns c r = told_end (omega arith) (c.loop-patch.invariant r)
