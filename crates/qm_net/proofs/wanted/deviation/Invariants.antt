use Rattle.std.proofs.Common.{◌≡◌, ◌*◌, ◌^◌, ◌≤◌}
use Rattle.def_math.specs.Counts.{count_below}
use Rattle.def_flow.specs.{Network.network, Network.arc_at, Admissible.arc_deviation, Admissible.entries}

abbrev pub invariant-loop-k : Rattle.qm_net.proofs.wanted.deviation.Given.invariant-loop-k
invariant-loop-k l = record {
  value : l.all ≡ count_below (λ k. arc_deviation (network l.net) (arc_at l.net.arcs.items k) (entries l.x k)) l.k;
  small : l.all ≤ l.k * 10 ^ 19;
}
