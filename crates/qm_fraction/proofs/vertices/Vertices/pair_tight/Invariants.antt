use Rattle.std.proofs.Common.{◌≡◌}
use Rattle.qm_fraction.proofs.vertices.Vertices.pair_tight.Given as goal

abbrev pub invariant-loop-e : goal.invariant-loop-e
invariant-loop-e l = l.self.g ≡ l.initial.self.g

abbrev pub invariant-loop-e-2 : goal.invariant-loop-e-2
invariant-loop-e-2 l = l.self.g ≡ l.initial.self.g
