use Rattle.std.proofs.Common.{◌≡◌, ◌<◌, ℕ}
use Rattle.def_layout.specs.{Arcs.long_at, Layouts.layout_of}
use Rattle.def_remesh.specs.NewPoints.{lengths_in, multiple_of}

abbrev pub invariant-loop-arc : Rattle.qm_stitch.proofs.safe.are_times.Given.invariant-loop-arc
invariant-loop-arc l = (arc : ℕ) → arc < l.arc → lengths_in l.stretched.lengths.now arc
    ≡ multiple_of l.by (long_at (layout_of l.stretched.t.now).arcs) arc
