use Rattle.{std.proofs.Common.◌≤◌, std.proofs.Common.length, std.specs.Vec.vec_capacity}
use Rattle.{def_forest.specs.Tables.forest_of, qm_forest.specs.Outlines.AreWeights, qm_forest.specs.Outlines.set_in}

abbrev pub invariant-loop-k : Rattle.qm_forest.proofs.forest.Forest.list_set_weights.Given.invariant-loop-k
invariant-loop-k l = record {
  weights : AreWeights (forest_of l.self).weight (set_in l.sets) l.k l.numbers.items;
  room : length l.sets ≤ vec_capacity l.numbers;
}
