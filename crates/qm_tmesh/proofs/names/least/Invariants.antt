use Rattle.std.proofs.Common.{◌≡◌, ℕ, ◌<◌, ◌≤◌, length, get_or}

-- it is one of the darts, and at most each so far
abbrev pub invariant-loop-d : Rattle.qm_tmesh.proofs.names.least.Given.invariant-loop-d
invariant-loop-d l = record {
  below : (k : ℕ) → k < l.d-index → l.least ≤ get_or l.darts k 0;
  among : (k : ℕ) × (k < length l.darts) × (get_or l.darts k 0 ≡ l.least);
}
