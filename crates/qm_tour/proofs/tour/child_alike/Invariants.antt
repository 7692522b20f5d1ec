use Rattle.std.proofs.Common.{◌≢◌, ◌-◌, ◌<◌, ◌≤◌, ℕ, get_or, length}
use Rattle.qm_tour.proofs.tour.child_alike.Given as goal

abbrev pub invariant-others : goal.invariant-others
invariant-others l = record {
  low : l.from ≤ l.k;
  least : (j : ℕ) → l.from ≤ j → j < l.k → get_or l.keys j 0 ≢ l.key;
}

abbrev pub decreases-others : goal.decreases-others
decreases-others l = length l.keys - l.k
