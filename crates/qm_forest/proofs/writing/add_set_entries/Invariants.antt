use Rattle.std.proofs.Common.{◌≡◌, ℕ, ◌+◌, ◌<◌, ◌≤◌, get_or, length}
use Rattle.qm_forest.specs.Outlines.{AreEntries, set_in}
use Rattle.{std.specs.Vec.vec_capacity, def_forest.specs.Tables.up_at}

abbrev pub invariant-loop-k : Rattle.qm_forest.proofs.writing.add_set_entries.Given.invariant-loop-k
invariant-loop-k l = record {
  size : length l.entries.items ≡ length l.fn.entries.items + l.k;
  kept : (j : ℕ) → j < length l.fn.entries.items → get_or l.entries.items j 0 ≡ get_or l.fn.entries.items j 0;
  each : AreEntries (up_at l.up) l.names (set_in l.sets) (length l.fn.entries.items) l.k l.entries.items;
  room : vec_capacity l.fn.entries ≤ vec_capacity l.entries;
}
