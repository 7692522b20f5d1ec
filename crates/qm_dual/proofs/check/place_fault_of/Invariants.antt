use Rattle.std.proofs.Common.{◌≡◌, ℕ, ◌<◌, not, false, slice_index}
use Rattle.def_matching.specs.Dual.{is_up}

abbrev pub invariant-loop-i : Rattle.qm_dual.proofs.check.place_fault_of.Given.invariant-loop-i
invariant-loop-i l = (k : ℕ) → k < l.i → not (is_up l.places.n l.places.sets k (slice_index l.places.up.now k)) ≡ false
