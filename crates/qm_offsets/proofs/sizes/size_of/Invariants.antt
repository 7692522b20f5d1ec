use Rattle.def_remesh.specs.{NewPoints.lengths_in, Numberings.sizes_on}
use Rattle.{std.proofs.Common.◌≡◌, def_math.specs.Counts.count_below}

abbrev pub invariant-loop-used : Rattle.qm_offsets.proofs.sizes.size_of.Given.invariant-loop-used
invariant-loop-used l = l.size ≡ count_below (sizes_on l.side (lengths_in l.lengths)) l.used-index
