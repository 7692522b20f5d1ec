use Rattle.qm_sing.specs.Rings.{AreRings}

-- The darts before d have been taken.
abbrev pub invariant-loop-d : Rattle.qm_sing.proofs.rings.gather.Given.invariant-loop-d
invariant-loop-d l = AreRings l.classed.mesh.now l.d l.regular l.least
