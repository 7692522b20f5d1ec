use Rattle.def_layout.specs.Layouts.{gluing_of, layout_of}
use Rattle.{def_remesh.specs.NewPoints.lengths_in, qm_blocks.specs.Spots.HasSpots, qm_blocks.specs.Spots.IsBefore}

abbrev pub invariant-loop-block : Rattle.qm_blocks.proofs.spots.spots_of.Given.invariant-loop-block
invariant-loop-block l =
    HasSpots (gluing_of (layout_of l.measured.t.now)) (lengths_in l.measured.x.now) (IsBefore l.block) l.table.items
