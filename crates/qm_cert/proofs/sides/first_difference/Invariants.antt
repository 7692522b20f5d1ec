use Rattle.std.proofs.Common.{◌≡◌, ℕ, ◌<◌, ◌==◌, not, false, slice_index}

abbrev pub invariant-loop-v : Rattle.qm_cert.proofs.sides.first_difference.Given.invariant-loop-v
invariant-loop-v l = (j : ℕ) → j < l.v
    → not (slice_index l.sides.plus.now j == slice_index l.sides.minus.now j) ≡ false
