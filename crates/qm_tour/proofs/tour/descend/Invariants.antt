use Rattle.std.proofs.Common.{◌≡◌, ◌-◌, ◌<◌, ◌≤◌, length, get_or}
use Rattle.qm_tour.proofs.tour.descend.Given as goal

abbrev pub invariant-levels : goal.invariant-levels
invariant-levels l = record {
  root : 5 ≤ l.node;
  low : l.node < length l.keys;
  least : get_or l.keys l.node 0 ≡ get_or l.keys 5 0;
}

abbrev pub decreases-levels : goal.decreases-levels
decreases-levels l = length l.keys - l.node
