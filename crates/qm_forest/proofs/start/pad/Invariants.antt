use Rattle.std.proofs.Common.{◌≡◌, ◌≤◌, ℕ, length, get_or, pos}

abbrev pub invariant-loop : Rattle.qm_forest.proofs.start.pad.Given.invariant-loop
invariant-loop l = record {
  size : length l.all.items ≡ l.counter;
  long : length l.numbers ≤ l.counter;
  each : (k : ℕ) → get_or l.all.items k (pos 0) ≡ get_or l.numbers k (pos 0);
}
