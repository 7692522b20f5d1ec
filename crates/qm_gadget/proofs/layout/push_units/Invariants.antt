use Rattle.std.proofs.Common.{◌≡◌, ◌+◌, ◌++◌, drop}
use Rattle.def_flow.specs.MatchingGraph.{units_links, unit_size}
use Rattle.{def_math.specs.Counts.count, qm_gadget.specs.Layout.copies_in}

abbrev pub invariant-loop-unit : Rattle.qm_gadget.proofs.layout.push_units.Given.invariant-loop-unit
invariant-loop-unit l = record {
  edges : l.edges.items
      ++ units_links (copies_in l.covered.copies.now.counts.items) l.b (drop l.unit-index l.covered.units.now)
      ≡ l.initial.edges.items ++ units_links (copies_in l.covered.copies.now.counts.items) l.first l.covered.units.now;
  place : l.b + count unit_size (drop l.unit-index l.covered.units.now) ≡ l.first + count unit_size l.covered.units.now;
}
