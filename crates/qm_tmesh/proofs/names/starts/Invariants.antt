use Rattle.qm_tmesh.specs.Tables.{AreStarts}

-- the named runs before s are in the table
abbrev pub invariant-loop-s : Rattle.qm_tmesh.proofs.names.starts.Given.invariant-loop-s
invariant-loop-s l = AreStarts l.mesh l.cut l.s l.starts.items
