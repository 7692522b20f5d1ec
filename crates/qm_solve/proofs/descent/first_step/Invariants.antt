use Rattle.std.proofs.Common.{◌≤◌}

abbrev pub invariant-loop-k : Rattle.qm_solve.proofs.descent.first_step.Given.invariant-loop-k
invariant-loop-k l = record { low : 1 ≤ l.step; high : l.step ≤ 4096 }
