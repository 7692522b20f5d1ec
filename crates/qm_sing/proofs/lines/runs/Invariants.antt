use Rattle.qm_sing.specs.Walks.{AreRunsSoFar}

-- The runs with darts below d are found.
abbrev pub invariant-loop-d : Rattle.qm_sing.proofs.lines.runs.Given.invariant-loop-d
invariant-loop-d l = AreRunsSoFar l.mesh l.d l.table.run.items l.table.at.items l.table.len.items l.table.closed.items
