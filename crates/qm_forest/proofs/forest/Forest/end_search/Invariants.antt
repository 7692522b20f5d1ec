use Rattle.std.proofs.Common.{◌≡◌, ℕ, ◌<◌, get_or}
use Rattle.def_forest.specs.{Tables.forest_of, declared.kinds.Label.TheVariants.Outside}
use Rattle.qm_forest.specs.Ties.{HasSameNest, relabelled}

abbrev pub invariant-loop-k : Rattle.qm_forest.proofs.forest.Forest.end_search.Given.invariant-loop-k
invariant-loop-k l = record {
  seen : forest_of l.self ≡ relabelled (forest_of l.fn.self) (forest_of l.self).label;
  done : (i : ℕ) → i < l.k → (forest_of l.self).label ((forest_of l.self).out (get_or l.fn.self.trail i 0)) ≡ Outside;
  same : HasSameNest l.fn.self l.self;
  trail : l.self.trail ≡ l.fn.self.trail;
}
