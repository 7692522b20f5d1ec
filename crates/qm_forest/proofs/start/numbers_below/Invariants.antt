use Rattle.qm_forest.specs.Ties.{IsCounted}

abbrev pub invariant-loop-i : Rattle.qm_forest.proofs.start.numbers_below.Given.invariant-loop-i
invariant-loop-i l = IsCounted l.i l.numbers.items
