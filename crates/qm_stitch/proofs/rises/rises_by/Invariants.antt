use Rattle.qm_stitch.specs.Raised.{AreRisesUpto}

abbrev pub invariant-loop-arc : Rattle.qm_stitch.proofs.rises.rises_by.Given.invariant-loop-arc
invariant-loop-arc l = AreRisesUpto l.some l.marked.tight.now l.marked.lengths.now l.arc l.rises.items
