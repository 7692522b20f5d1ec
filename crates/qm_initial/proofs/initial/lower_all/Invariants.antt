use Rattle.qm_initial.specs.Lowered.{AreWished}

-- The numbers have room for the edges so far.
abbrev pub invariant-loop-e : Rattle.qm_initial.proofs.initial.lower_all.Given.invariant-loop-e
invariant-loop-e l = AreWished l.g.graph l.initial.y l.y l.e
