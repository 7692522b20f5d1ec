use Rattle.std.proofs.Common.{◌≡◌, ℕ, ◌<◌, ◌≤◌, get_or}
use Rattle.def_forest.specs.Forests.{walk}

abbrev pub invariant-loop : Rattle.qm_forest.proofs.gathering.largest.Given.invariant-loop
invariant-loop l = record {
  here : l.x ≡ walk (λ k. get_or l.after k 0) l.front l.counter;
  best : (k : ℕ) × (k < l.many) × (walk (λ k. get_or l.after k 0) l.front k ≡ l.best);
  most : (k : ℕ) → k < l.counter → get_or l.rank (walk (λ k. get_or l.after k 0) l.front k) 0 ≤ get_or l.rank l.best 0;
}
