use Rattle.std.proofs.Common.{arith}
use Rattle.qm_stitch.proofs.DoubledPairs.{told_end, told_next, told_none}
use Rattle.qm_stitch.proofs.remedies.push_sides.Goals as goal

pub loop-side-init : goal.loop-side-init
loop-side-init c r = told_none (λ is. omega arith)

pub loop-side-preserved : goal.loop-side-preserved
loop-side-preserved c r = told_next _ (c.loop-side.invariant r) (c.in_ok-push_side.ensures r)

pub returns : goal.returns
returns c r = told_end (omega arith) (c.loop-side.invariant r)
