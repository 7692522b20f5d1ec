use Rattle.std.proofs.Common.{◌≡◌, ℕ, ◌<◌, length, get_or, true, false}

abbrev pub invariant-loop-place : Rattle.qm_forest.proofs.augmenting.clear.Given.invariant-loop-place
invariant-loop-place l = record {
  size : length l.marks.items ≡ length l.fn.marks.items;
  old : (v : ℕ) → get_or l.marks.items v false ≡ true → get_or l.fn.marks.items v false ≡ true;
  gone : (k : ℕ) → k < l.place-index → get_or l.marks.items (get_or l.places k 0) false ≡ false;
}
