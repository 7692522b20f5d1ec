use Rattle.qm_marks.proofs.EdgeMarks.{IsChainTo}

abbrev pub invariant-loop-k : Rattle.qm_marks.proofs.chain.mark_chain.Given.invariant-loop-k
invariant-loop-k l = IsChainTo l.mesh l.chain l.initial.marks l.marks l.k
