use Rattle.std.specs.List.{flat_map, range_with_len}
use Rattle.{std.proofs.Common.map, def_layout.specs.Layouts.gluing_of, def_remesh.specs.NewPoints.lengths_in}
use Rattle.{def_text.specs.Canonical.face_text, def_written.specs.NewFaces.new_face}

abbrev pub invariant-loop-f : Rattle.qm_write.proofs.faces.put_faces.Given.invariant-loop-f
invariant-loop-f g l =
    g.T.Output.takes l.initial.out l.out
    (flat_map face_text (map (new_face (gluing_of l.new.layout) (lengths_in l.new.lengths)) (range_with_len 0 l.f)))
