use Rattle.std.proofs.Common.{◌≡◌, length}

-- A number for each vertex.
abbrev pub invariant-loop-k : Rattle.qm_solve.proofs.priced.wishes_of.Given.invariant-loop-k
invariant-loop-k l = length l.wishes.numbers.items ≡ l.gadget.graph.n
