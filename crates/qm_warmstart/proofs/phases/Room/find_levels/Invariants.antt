use Rattle.std.proofs.Common.{◌≡◌}
use Rattle.qm_warmstart.proofs.phases.Room.find_levels.Given as goal

abbrev pub invariant-loop-k : goal.invariant-loop-k
invariant-loop-k l = (l.self.search ≡ l.initial.self.search) × (l.self.awake ≡ l.initial.self.awake)

abbrev pub invariant-loop-k-2 : goal.invariant-loop-k-2
invariant-loop-k-2 l = l.self.search ≡ l.initial.self.search
