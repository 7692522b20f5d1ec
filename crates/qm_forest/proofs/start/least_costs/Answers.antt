use Rattle.{std.proofs.Common.arith, std.proofs.lemmas.Int.ints, qm_forest.proofs.Fresh.one_more_edge}

pub loop-e-preserved : Rattle.qm_forest.proofs.start.least_costs.Goals.loop-e-preserved
loop-e-preserved c =
    let bound = c.requires.costs c.loop-e.e (omega (arith, c.loop-e-test.true, c.edge_count-e-end.ensures.value)) in
    one_more_edge c.loop-e.invariant c.edge-edge.ensures.value (omega (arith, ints, bound, c.requires.few))
    (omega (arith, ints, bound, c.requires.few)) bound c.lower.ensures c.lower-in-loop-e.ensures
