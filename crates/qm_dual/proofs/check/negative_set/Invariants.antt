use Rattle.std.proofs.Common.{◌≡◌, ℕ, ◌<◌, false, pos, slice_index_or, int_lt}

abbrev pub invariant-loop-k : Rattle.qm_dual.proofs.check.negative_set.Given.invariant-loop-k
invariant-loop-k l = (j : ℕ) → j < l.k → int_lt (slice_index_or l.z j (pos 0)) (pos 0) ≡ false
