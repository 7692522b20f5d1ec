use Rattle.std.proofs.Common.{◌≡◌, length}

abbrev pub invariant-loop-number : Rattle.qm_fraction.proofs.vertices.vertices_of.Given.invariant-loop-number
invariant-loop-number l = length l.all.items ≡ l.number-index
