use Rattle.std.proofs.Common.{◌≤◌}
use Rattle.qm_warmstart.proofs.flow.Flow.part_along.Given as goal

abbrev pub invariant-loop-part : goal.invariant-loop-part
invariant-loop-part l = 1 ≤ l.count

abbrev pub decreases-loop-part : goal.decreases-loop-part
decreases-loop-part l = l.part
