use Rattle.std.proofs.Common.{◌≤◌, length}
use Rattle.{std.specs.Vec.vec_capacity, qm_forest.specs.Rounds.AreMarked}

abbrev pub invariant-loop-e : Rattle.qm_forest.proofs.matchings.list_marked.Given.invariant-loop-e
invariant-loop-e l = record {
  marked : AreMarked l.marks l.e l.list.items;
  count : length l.list.items ≤ l.e;
  room : length l.marks ≤ vec_capacity l.list;
}
