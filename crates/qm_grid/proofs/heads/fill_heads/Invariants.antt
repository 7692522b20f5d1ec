use Rattle.qm_grid.specs.Heads.{AreHeadsSoFar}

-- the classes with a corner below d have their heads
abbrev pub invariant-loop-d : Rattle.qm_grid.proofs.heads.fill_heads.Given.invariant-loop-d
invariant-loop-d l = AreHeadsSoFar l.cut.faces l.cut.marks l.d l.heads
