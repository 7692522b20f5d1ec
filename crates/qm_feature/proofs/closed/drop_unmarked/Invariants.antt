use Rattle.qm_feature.specs.Rings.{AreWhole}

abbrev pub invariant-loop-d : Rattle.qm_feature.proofs.closed.drop_unmarked.Given.invariant-loop-d
invariant-loop-d l = AreWhole l.marks l.run l.initial.whole l.whole l.d
