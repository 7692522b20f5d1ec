use Rattle.{std.proofs.Common.◌≡◌, std.proofs.Common.map, qm_stitch.specs.Lengthened.gluing_in}
use Rattle.{qm_stitch.specs.Lengthened.lengths_by, std.specs.List.range_with_len, def_written.specs.NewFaces.new_face}

abbrev pub invariant-loop-face : Rattle.qm_stitch.proofs.stitching.all_faces.Given.invariant-loop-face
invariant-loop-face l = l.faces.items ≡ map (new_face (gluing_in l.numbered) (lengths_by l.numbered))
    (range_with_len 0 l.face)
