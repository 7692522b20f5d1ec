use Rattle.std.proofs.Common.{◌≡◌, ◌+◌, ◌++◌, drop}
use Rattle.{def_math.specs.Counts.count, def_flow.specs.MatchingGraph.rim, def_flow.specs.MatchingGraph.unit_size}

abbrev pub invariant-loop-unit : Rattle.qm_gadget.proofs.rim.rim_of.Given.invariant-loop-unit
invariant-loop-unit l = record {
  rims : l.rims.items ++ rim l.b (drop l.unit-index l.units) ≡ rim l.first l.units;
  place : l.b + count unit_size (drop l.unit-index l.units) ≡ l.first + count unit_size l.units;
}
