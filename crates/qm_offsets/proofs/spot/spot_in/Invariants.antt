use Rattle.std.proofs.Common.{◌≡◌, ◌⊎◌, ◌+◌, ◌-◌, ◌<◌, ◌≤◌, length, get_or}
use Rattle.qm_offsets.proofs.spot.spot_in.Given as goal

abbrev pub invariant-halves : goal.invariant-halves
invariant-halves l = record {
  apart : l.low < l.high;
  high_low : l.high < length l.starts;
  from : (l.low ≡ 0) ⊎ (get_or l.starts l.low 0 ≤ l.place);
  to : (l.high + 1 ≡ length l.starts) ⊎ (l.place < get_or l.starts l.high 0);
}

abbrev pub decreases-halves : goal.decreases-halves
decreases-halves l = l.high - l.low
