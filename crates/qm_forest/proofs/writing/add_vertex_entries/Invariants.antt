use Rattle.std.proofs.Common.{◌≡◌, ◌≤◌, length}
use Rattle.{std.specs.Vec.vec_capacity, def_forest.specs.Tables.up_at, qm_forest.specs.Outlines.AreEntries}

abbrev pub invariant-loop-v : Rattle.qm_forest.proofs.writing.add_vertex_entries.Given.invariant-loop-v
invariant-loop-v l = record {
  size : length l.entries.items ≡ l.v;
  each : AreEntries (up_at l.up) l.names (λ v. v) 0 l.v l.entries.items;
  room : vec_capacity l.fn.entries ≤ vec_capacity l.entries;
}
