use Rattle.std.proofs.Common.{◌≡◌, ◌++◌}
use Rattle.qm_stitch.specs.{Rims.arcs_upto, Rims.keys_of, Lengthened.gluing_in, Lengthened.lengths_by}

abbrev pub invariant-loop-arc : Rattle.qm_stitch.proofs.rim.push_arcs.Given.invariant-loop-arc
invariant-loop-arc l = l.keys.items ≡ l.initial.keys.items ++ keys_of (gluing_in l.numbered) (lengths_by l.numbered)
    (arcs_upto (lengths_by l.numbered) l.arc)
