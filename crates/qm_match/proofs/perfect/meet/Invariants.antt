use Rattle.std.proofs.Common.{◌≡◌, ℕ, ◌<◌, ◌≤◌, false, get_or, length, map, take}
use Rattle.def_matching.specs.Matching.{edge_at, ends_at}
use Rattle.{def_math.specs.Counts.count, def_math.specs.Increasing.IsIncreasing, def_forest.specs.Forests.bool_number}

abbrev pub invariant-loop-e : Rattle.qm_match.proofs.perfect.meet.Given.invariant-loop-e
invariant-loop-e l = record {
  size : length l.seen.items ≡ l.g.graph.n;
  low : l.next ≤ length l.g.graph.edges;
  increasing : IsIncreasing 0 l.next (take l.e-index l.edges);
  counts : (v : ℕ) → v < l.g.graph.n → count (ends_at v) (map (edge_at l.g.graph) (take l.e-index l.edges))
      ≡ bool_number (get_or l.seen.items v false);
}
