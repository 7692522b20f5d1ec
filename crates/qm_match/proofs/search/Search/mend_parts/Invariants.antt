use Rattle.std.proofs.Common.{◌≡◌, ℕ, ◌<◌, ◌≤◌, get_or, true, false}
use Rattle.search_laws.specs.Keys.{AreRightAt, IsMended}
use Rattle.{std.specs.Vec.vec_capacity, def_forest.specs.Tables.forest_of, qm_match.proofs.Stepped.part_of}

abbrev pub invariant-loop : Rattle.qm_match.proofs.search.Search.mend_parts.Given.invariant-loop
invariant-loop l = record {
  same : l.self ≡ record l.fn.self { tour = l.self.tour; members = l.self.members };
  room : l.g.graph.n ≤ vec_capacity l.self.members;
  here : l.part ≡ part_of l.fn.self.forest l.set l.counter;
  mended : IsMended l.g.graph (forest_of l.fn.self.forest) l.fn.self.risen l.fn.self.tour l.self.tour;
  right : (k : ℕ) → k < l.counter → get_or l.fn.self.inner.items (part_of l.fn.self.forest l.set k) false ≡ true
      → AreRightAt l.g.graph (forest_of l.fn.self.forest) l.fn.self.risen l.self.tour
      ((forest_of l.fn.self.forest).holds (part_of l.fn.self.forest l.set k));
}
