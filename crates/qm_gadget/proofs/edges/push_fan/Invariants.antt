use Rattle.{std.proofs.Common.◌≡◌, std.proofs.Common.◌++◌, def_flow.specs.MatchingGraph.fan}

abbrev pub invariant-loop-k : Rattle.qm_gadget.proofs.edges.push_fan.Given.invariant-loop-k
invariant-loop-k l = l.edges.items ≡ l.initial.edges.items ++ fan l.u l.cost l.first l.k
