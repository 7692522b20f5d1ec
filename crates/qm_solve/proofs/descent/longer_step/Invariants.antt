use Rattle.std.proofs.Common.{◌-◌, ◌≤◌}
use Rattle.qm_solve.proofs.descent.longer_step.Given as goal

abbrev pub invariant-loop-longer : goal.invariant-loop-longer
invariant-loop-longer l = record { low : 1 ≤ l.longer; high : l.longer ≤ 4096 }

abbrev pub decreases-loop-longer : goal.decreases-loop-longer
decreases-loop-longer l = 4096 - l.longer
