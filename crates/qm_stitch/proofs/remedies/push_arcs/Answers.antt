use Rattle.std.proofs.Common.{arith}
use Rattle.qm_stitch.proofs.DoubledPairs.{told_end, told_next, told_none}
use Rattle.qm_stitch.proofs.remedies.push_arcs.Goals as goal

pub loop-arc-init : goal.loop-arc-init
loop-arc-init c r = told_none (λ is. omega arith)

pub loop-arc-preserved : goal.loop-arc-preserved
loop-arc-preserved c r = told_next _ (c.loop-arc.invariant r) (c.in_ok-push_arc.ensures r)

pub returns : goal.returns
returns c r = told_end (omega arith) (c.loop-arc.invariant r)
