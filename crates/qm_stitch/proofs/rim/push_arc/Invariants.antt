use Rattle.std.proofs.Common.{◌≡◌, ◌++◌, map}
use Rattle.qm_stitch.specs.{Rims.keys_of, Lengthened.gluing_in, Lengthened.lengths_by}
use Rattle.{std.specs.List.range_with_len, def_written.specs.Edges.on_arc}

abbrev pub invariant-loop-k : Rattle.qm_stitch.proofs.rim.push_arc.Given.invariant-loop-k
invariant-loop-k l = l.keys.items ≡ l.initial.keys.items ++ keys_of (gluing_in l.numbered) (lengths_by l.numbered)
    (map (on_arc l.arc) (range_with_len 0 l.k))
