use Rattle.{def_text.specs.Canonical.face_text, std.proofs.Common.take, std.specs.List.flat_map}

abbrev pub invariant-loop-face : Rattle.qm_obj.proofs.text.put_faces.Given.invariant-loop-face
invariant-loop-face g l = g.T.Output.takes l.initial.out l.out (flat_map face_text (take l.face-index l.faces))
