use Rattle.std.proofs.Common.{◌≡◌, ℕ, ◌<◌, length, slice_index}
use Rattle.{def_math.specs.Counts.count_below, qm_gadget.specs.Layout.copies_in}

abbrev pub invariant-loop-count : Rattle.qm_gadget.proofs.copies.first_copies.Given.invariant-loop-count
invariant-loop-count l = record {
  copies : l.copies ≡ count_below (copies_in l.counts) l.count-index;
  count : length l.firsts.items ≡ l.count-index;
  each : (v : ℕ) → v < l.count-index → slice_index l.firsts.items v ≡ count_below (copies_in l.counts) v;
}
