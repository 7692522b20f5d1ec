use Rattle.std.proofs.Common.{◌+◌, ◌-◌, false, length}
use Rattle.def_written.specs.Spacings.{counted, inner_step, step_parameter}
use Rattle.qm_place.specs.{Paths.share_by, Pushed.ArePushed, Walks.HasReached}

abbrev pub invariant-loop-k : Rattle.qm_place.proofs.spacing.push_shared.Given.invariant-loop-k
invariant-loop-k l = record {
  pushed : ArePushed l.fn.parameters.items l.parameters.items (l.k - 1) (λ i. step_parameter (inner_step
      (counted (share_by l.fn.darts.all.now l.shares false) (length l.fn.darts.all.now)) (length l.fn.darts.all.now)
      l.new (i + 1)));
  reached : HasReached l.path l.at l.k l.new;
}
