use Rattle.std.proofs.Common.{◌≡◌, ◌++◌}
use Rattle.qm_stitch.specs.{Rims.keys_of, Rims.patches_upto, Lengthened.gluing_in, Lengthened.lengths_by}

abbrev pub invariant-loop-patch : Rattle.qm_stitch.proofs.rim.push_patches.Given.invariant-loop-patch
invariant-loop-patch l = l.keys.items ≡ l.initial.keys.items ++ keys_of (gluing_in l.numbered) (lengths_by l.numbered)
    (patches_upto (gluing_in l.numbered) (lengths_by l.numbered) l.patch)
