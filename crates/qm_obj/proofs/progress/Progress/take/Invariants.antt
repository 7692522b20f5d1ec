use Rattle.std.proofs.Common.{◌≤◌, ◌-◌, length, take}
use Rattle.qm_obj.specs.{Feeding.TookPiece, Views.kept_at}
use Rattle.qm_obj.proofs.progress.Progress.take.Given as goal

abbrev pub invariant-loop-end : goal.invariant-loop-end
invariant-loop-end l = record {
  within : l.at ≤ length l.piece;
  took : TookPiece (kept_at l.initial.self) (kept_at l.self) (take l.at l.piece);
}

abbrev pub decreases-loop-end : goal.decreases-loop-end
decreases-loop-end l = length l.piece - l.at
