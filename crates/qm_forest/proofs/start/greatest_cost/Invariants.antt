use Rattle.qm_forest.specs.Ties.{IsGreatestTo}

abbrev pub invariant-loop-e : Rattle.qm_forest.proofs.start.greatest_cost.Given.invariant-loop-e
invariant-loop-e l = IsGreatestTo l.g.graph l.e l.most
