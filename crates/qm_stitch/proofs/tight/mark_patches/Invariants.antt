use Rattle.qm_stitch.specs.{Lengthened.gluing_in, Lengthened.lengths_by, Tight.AddsMarks, Tight.IsTightUpto}

abbrev pub invariant-loop-patch : Rattle.qm_stitch.proofs.tight.mark_patches.Given.invariant-loop-patch
invariant-loop-patch l =
    AddsMarks l.initial.tight l.tight (IsTightUpto (gluing_in l.keyed.numbered) (lengths_by l.keyed.numbered) l.patch)
