use Rattle.std.proofs.Common.{◌≡◌, ℕ, ◌<◌, length, get_or}

abbrev pub invariant-loop-i : Rattle.qm_pool.proofs.pool.numbers_below.Given.invariant-loop-i
invariant-loop-i l = record {
  size : length l.numbers.items ≡ l.i;
  each : (k : ℕ) → k < l.i → get_or l.numbers.items k 0 ≡ k;
}
