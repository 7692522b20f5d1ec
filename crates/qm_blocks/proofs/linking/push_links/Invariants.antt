use Rattle.std.proofs.Common.{◌≡◌, ◌++◌, map}
use Rattle.def_remesh.specs.{NewPoints.lengths_in, Numberings.sizes_on}
use Rattle.{std.specs.List.range_with_len, def_math.specs.Counts.count_below, qm_blocks.specs.Spots.link_on}

abbrev pub invariant-loop-used : Rattle.qm_blocks.proofs.linking.push_links.Given.invariant-loop-used
invariant-loop-used l = record {
  pushed : l.links.items ≡ l.initial.links.items
      ++ map (link_on l.spotted.table.now (lengths_in l.spotted.measured.x.now) l.name l.side)
      (range_with_len 0 l.used-index);
  from : l.from ≡ count_below (sizes_on l.side (lengths_in l.spotted.measured.x.now)) l.used-index;
}
