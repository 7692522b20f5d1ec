use Rattle.std.proofs.Common.{◌≡◌, ◌*◌, ◌^◌, ◌≤◌}
use Rattle.qm_dec.specs.Sizes.{clamped}
use Rattle.qm_dec.proofs.size.times_power.Given as goal

-- what is left to multiply gives the whole
abbrev pub invariant-loop-power : goal.invariant-loop-power
invariant-loop-power l = record {
  whole : clamped (l.value * 10 ^ l.power) ≡ clamped (l.fn.value * 10 ^ l.fn.power);
  small : l.value ≤ 10 ^ 15;
}

abbrev pub decreases-loop-power : goal.decreases-loop-power
decreases-loop-power l = l.power
