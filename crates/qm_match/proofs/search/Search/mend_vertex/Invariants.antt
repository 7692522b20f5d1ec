use Rattle.std.proofs.Common.{◌≡◌, ◌*◌, ◌/◌, ◌≤◌, length, get_or}
use Rattle.search_laws.specs.Keys.{true_key, IsMended}
use Rattle.{def_forest.specs.Tables.forest_of, qm_match.proofs.Chains.HoldsPassed}
use Rattle.qm_match.proofs.search.Search.mend_vertex.Given as goal

abbrev pub invariant-loop-entry : goal.invariant-loop-entry
invariant-loop-entry l = record {
  same : l.self ≡ record l.fn.self { tour = l.self.tour };
  low : l.entry ≤ 2 * length l.g.graph.edges;
  mended : IsMended l.g.graph (forest_of l.fn.self.forest) l.fn.self.risen l.fn.self.tour l.self.tour;
  done : HoldsPassed l.fn.self.fans.next.items (get_or l.fn.self.fans.first.items l.v 0) l.entry (λ d.
      get_or l.self.tour (d / 2) 0 ≡ true_key l.g.graph (forest_of l.fn.self.forest) l.fn.self.risen (d / 2));
}

abbrev pub decreases-loop-entry : goal.decreases-loop-entry
decreases-loop-entry l = l.entry
