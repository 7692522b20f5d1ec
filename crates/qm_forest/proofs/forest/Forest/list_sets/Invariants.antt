use Rattle.std.proofs.Common.{◌+◌, ◌≤◌, length}
use Rattle.{std.specs.Vec.vec_capacity, qm_forest.specs.Rounds.HasSets}

abbrev pub invariant-loop-b : Rattle.qm_forest.proofs.forest.Forest.list_sets.Given.invariant-loop-b
invariant-loop-b l = record {
  count : length l.sets.items + length l.self.hand ≤ l.b;
  room : length l.self.up ≤ length l.self.hand + vec_capacity l.sets;
  has : HasSets l.self l.b l.sets.items;
}
