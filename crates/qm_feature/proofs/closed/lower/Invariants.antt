use Rattle.qm_feature.specs.{declared.closed.TheConstants.NONE, Rings.AreLeast}

abbrev pub invariant-loop-d : Rattle.qm_feature.proofs.closed.lower.Given.invariant-loop-d
invariant-loop-d l = AreLeast l.mesh l.run l.least NONE l.d
