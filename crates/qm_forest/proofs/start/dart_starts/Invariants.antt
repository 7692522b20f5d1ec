use Rattle.qm_forest.specs.Ties.{AreStarts}

abbrev pub invariant-loop-d : Rattle.qm_forest.proofs.start.dart_starts.Given.invariant-loop-d
invariant-loop-d l = AreStarts l.g.graph l.d l.starts.items
