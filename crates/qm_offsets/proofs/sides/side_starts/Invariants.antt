use Rattle.def_remesh.specs.{NewPoints.lengths_in, Numberings.sizes_on, Numberings.AreRunStarts}

abbrev pub invariant-loop-used : Rattle.qm_offsets.proofs.sides.side_starts.Given.invariant-loop-used
invariant-loop-used l = AreRunStarts (sizes_on l.side (lengths_in l.lengths)) l.used-index l.starts.begin.items
