use Rattle.def_remesh.specs.{NewPoints.lengths_in, Numberings.sizes_on}
use Rattle.{std.proofs.Common.◌≡◌, def_math.specs.Counts.count_below, qm_blocks.specs.Spots.HasUses}

abbrev pub invariant-loop-used : Rattle.qm_blocks.proofs.spots.put_uses.Given.invariant-loop-used
invariant-loop-used l = record {
  uses : HasUses l.side (lengths_in l.x) l.block l.name l.used-index l.initial.table l.table;
  from : l.from ≡ count_below (sizes_on l.side (lengths_in l.x)) l.used-index;
}
