use Rattle.std.proofs.Common.{◌≡◌, ◌≢◌, ℕ, ◌<◌, get_or}
use Rattle.def_forest.specs.Forests.{walk}

abbrev pub invariant-loop-k : Rattle.qm_forest.proofs.forest.Forest.distance.Given.invariant-loop-k
invariant-loop-k l = record {
  here : l.x ≡ walk (λ i. get_or l.self.after i 0) l.first l.k;
  missed : (j : ℕ) → j < l.k → walk (λ i. get_or l.self.after i 0) l.first j ≢ l.last;
}
