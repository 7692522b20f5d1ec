use Rattle.std.proofs.Common.{◌≡◌, ℕ, ◌<◌, eqb, get_or}
use Rattle.{def_forest.specs.Tables.forest_of, search_laws.specs.Keys.AreRightAt, search_laws.specs.Keys.IsMended}

abbrev pub invariant-loop-k : Rattle.qm_match.proofs.search.Search.mend_members.Given.invariant-loop-k
invariant-loop-k l = record {
  same : l.self ≡ record l.fn.self { tour = l.self.tour };
  mended : IsMended l.g.graph (forest_of l.fn.self.forest) l.fn.self.risen l.fn.self.tour l.self.tour;
  done : (j : ℕ) → j < l.k → AreRightAt l.g.graph (forest_of l.fn.self.forest) l.fn.self.risen l.self.tour
      (λ w. eqb w (get_or l.fn.self.members.items j 0));
}
