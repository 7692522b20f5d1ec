use Rattle.std.proofs.Common.{◌≡◌, ◌+◌, ◌-◌, ◌^◌, ◌<◌, ◌≤◌}
use Rattle.qm_net.specs.Balance.{IsBlockBalanced}
use Rattle.qm_net.proofs.balance.are_balanced.Given as goal

abbrev pub invariant-loop-first : goal.invariant-loop-first
invariant-loop-first l = record {
  far : l.first ≤ l.nodes + 2048;
  same : l.nodes ≡ l.lengths.net.whole.now.nodes;
  few : l.nodes < 2 ^ 32;
  balanced : IsBlockBalanced l.lengths.net.whole.now.arcs.items l.lengths.x.now 0 l.first;
}

abbrev pub decreases-loop-first : goal.decreases-loop-first
decreases-loop-first l = l.nodes - l.first
