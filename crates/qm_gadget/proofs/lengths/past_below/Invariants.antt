use Rattle.std.proofs.Common.{◌≡◌, ◌-◌, ◌≤◌, length, drop}
use Rattle.qm_gadget.specs.Read.{skip_below}
use Rattle.qm_gadget.proofs.lengths.past_below.Given as goal

abbrev pub invariant-loop-place : goal.invariant-loop-place
invariant-loop-place l = record {
  rest : skip_below l.end (drop l.place l.m) ≡ skip_below l.end (drop l.at l.m);
  low : l.place ≤ length l.m;
}

abbrev pub decreases-loop-place : goal.decreases-loop-place
decreases-loop-place l = length l.m - l.place
