use Rattle.std.proofs.Common.{◌≡◌, ◌<◌, ◌≤◌, ℕ, get_or}

abbrev pub invariant-loop-k : Rattle.qm_tour.proofs.tour.least_below.Given.invariant-loop-k
invariant-loop-k l = record {
  low : (j : ℕ) → l.from ≤ j → j < l.k → l.least ≤ get_or l.keys j 0;
  from : (j : ℕ) × (l.from ≤ j) × (j < l.k) × (get_or l.keys j 0 ≡ l.least);
}
