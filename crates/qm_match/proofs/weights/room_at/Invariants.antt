use Rattle.std.proofs.Common.{◌*◌, ◌≤◌, length, get_or, pos, ◌≤ℤ◌}
use Rattle.qm_match.{specs.Weights.left_to, proofs.Chains.HoldsPassed}
use Rattle.qm_match.proofs.weights.room_at.Given as goal

abbrev pub invariant-loop-entry : goal.invariant-loop-entry
invariant-loop-entry l = record {
  few : l.room ≤ℤ pos l.most;
  low : l.entry ≤ 2 * length l.g.graph.edges;
  done : HoldsPassed l.fans.next.items (get_or l.fans.first.items l.v 0) l.entry
      (λ d. l.room ≤ℤ left_to l.g.graph l.y d);
}

abbrev pub decreases-loop-entry : goal.decreases-loop-entry
decreases-loop-entry l = l.entry
