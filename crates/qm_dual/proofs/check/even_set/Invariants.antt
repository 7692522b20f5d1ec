use Rattle.std.proofs.Common.{◌≡◌, ℕ, ◌<◌, not, false, slice_index}
use Rattle.def_matching.specs.Dual.{is_odd_size}

abbrev pub invariant-loop-k : Rattle.qm_dual.proofs.check.even_set.Given.invariant-loop-k
invariant-loop-k l = (j : ℕ) → j < l.k → not (is_odd_size (slice_index l.sizes j)) ≡ false
