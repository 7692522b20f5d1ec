use Rattle.{std.proofs.Common.◌≤◌, std.proofs.Common.length, def_matching.specs.Dual.AreSmall}

-- Small numbers, no more than were read.
abbrev pub invariant-loop-number : Rattle.qm_solve.proofs.idle.without_zeros.Given.invariant-loop-number
invariant-loop-number l = AreSmall l.kept.items × (length l.kept.items ≤ l.number-index)
