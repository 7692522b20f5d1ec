use Rattle.std.proofs.Common.{◌≡◌}
use Rattle.qm_warmstart.proofs.phases.Room.relax.Given as goal

abbrev pub invariant-loop-scale : goal.invariant-loop-scale
invariant-loop-scale l = l.self.search.flow.cover.now ≡ l.initial.self.search.flow.cover.now

abbrev pub decreases-loop-scale : goal.decreases-loop-scale
decreases-loop-scale l = l.scale
