use Rattle.std.proofs.Common.{◌≡◌, length}

-- A number for each vertex.
abbrev pub invariant-loop-e : Rattle.qm_initial.proofs.costs.least_costs.Given.invariant-loop-e
invariant-loop-e l = length l.costs.at.items ≡ l.g.graph.n
