use Rattle.std.proofs.{Common.drop, Common.length, Common.◌++◌, Common.◌-◌, Common.◌≡◌, Common.◌≤◌}
use Rattle.{def_io.specs.Lines.pieces, qm_io.specs.Ends.ends_from}
use Rattle.qm_io.proofs.ends.ends_of.Given as goal

abbrev pub invariant-loop-at : goal.invariant-loop-at
invariant-loop-at l = record {
  within : l.at ≤ length l.bytes;
  left : l.ends.items ++ ends_from l.at (pieces (drop l.at l.bytes)) ≡ ends_from 0 (pieces l.bytes);
}

abbrev pub decreases-loop-at : goal.decreases-loop-at
decreases-loop-at l = length l.bytes - l.at
