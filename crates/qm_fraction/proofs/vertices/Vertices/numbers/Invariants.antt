use Rattle.std.proofs.Common.{◌≡◌, length}

abbrev pub invariant-loop-vertex : Rattle.qm_fraction.proofs.vertices.Vertices.numbers.Given.invariant-loop-vertex
invariant-loop-vertex l = length l.numbers.items ≡ l.vertex-index
