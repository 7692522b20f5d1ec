use Rattle.{qm_obj.specs.Kept.IsMarked, std.proofs.Common.take}

abbrev pub invariant-loop-face : Rattle.qm_obj.proofs.used.used_marks.Given.invariant-loop-face
invariant-loop-face l = IsMarked (take l.face-index l.faces) l.vertices l.marks.items
