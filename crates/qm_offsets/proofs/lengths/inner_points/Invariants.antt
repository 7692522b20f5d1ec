use Rattle.{std.proofs.Common.◌-◌, def_remesh.specs.NewPoints.lengths_in, def_remesh.specs.Numberings.AreRunStarts}

abbrev pub invariant-loop-length : Rattle.qm_offsets.proofs.lengths.inner_points.Given.invariant-loop-length
invariant-loop-length l = AreRunStarts (λ arc. lengths_in l.lengths arc - 1) l.length-index l.starts.begin.items
