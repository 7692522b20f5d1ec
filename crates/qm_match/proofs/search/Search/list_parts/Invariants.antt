use Rattle.std.proofs.Common.{◌≡◌, ℕ, ◌<◌, ◌≤◌, get_or, length}
use Rattle.{std.specs.Vec.vec_capacity, qm_match.proofs.Stepped.part_of}

abbrev pub invariant-loop : Rattle.qm_match.proofs.search.Search.list_parts.Given.invariant-loop
invariant-loop l = record {
  same : l.self ≡ record l.fn.self { parts = l.self.parts };
  room : l.g.graph.n ≤ vec_capacity l.self.parts;
  here : l.part ≡ part_of l.fn.self.forest l.b l.counter;
  count : length l.self.parts.items ≡ l.counter;
  each : (k : ℕ) → k < l.counter → get_or l.self.parts.items k 0 ≡ part_of l.fn.self.forest l.b k;
}
