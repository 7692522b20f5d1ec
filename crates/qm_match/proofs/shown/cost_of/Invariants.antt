use Rattle.std.proofs.Common.{◌≡◌, ◌*◌, ◌^◌, ◌≤◌, take}
use Rattle.{std.specs.Prelude.unsigned_abs, def_matching.specs.Matching.matching_cost}

abbrev pub invariant-loop-edge : Rattle.qm_match.proofs.shown.cost_of.Given.invariant-loop-edge
invariant-loop-edge l = record {
  value : l.cost ≡ matching_cost l.g.graph (take l.edge-index l.matching);
  small : unsigned_abs l.cost ≤ l.edge-index * 2 ^ 63;
}
