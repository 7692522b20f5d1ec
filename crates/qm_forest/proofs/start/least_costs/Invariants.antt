use Rattle.qm_forest.specs.Ties.{HasLowCosts}

abbrev pub invariant-loop-e : Rattle.qm_forest.proofs.start.least_costs.Given.invariant-loop-e
invariant-loop-e l = HasLowCosts l.g.graph l.most l.e l.lows.items
