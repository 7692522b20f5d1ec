use Rattle.def_layout.specs.Layouts.{gluing_of, layout_of}
use Rattle.{std.proofs.Common.◌≡◌, def_written.specs.NewFaces.cells_before, def_remesh.specs.NewPoints.lengths_in}

abbrev pub invariant-loop-patch : Rattle.qm_stitch.proofs.count.count_faces.Given.invariant-loop-patch
invariant-loop-patch l =
    l.faces ≡ cells_before (gluing_of (layout_of l.stretched.t.now)) (lengths_in l.stretched.lengths.now) l.patch
