use Rattle.std.proofs.Common.{◌≤◌, length}
use Rattle.{std.specs.Vec.vec_capacity, def_forest.specs.Tables.forest_of, qm_forest.specs.Outlines.AreWeights}

abbrev pub invariant-loop-v : Rattle.qm_forest.proofs.forest.Forest.list_vertex_weights.Given.invariant-loop-v
invariant-loop-v l = record {
  weights : AreWeights (forest_of l.self).weight (λ v. v) l.v l.numbers.items;
  room : length l.self.hand ≤ vec_capacity l.numbers;
}
