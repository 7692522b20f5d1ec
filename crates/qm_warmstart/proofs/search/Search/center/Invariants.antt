use Rattle.std.proofs.Common.{◌≡◌}
use Rattle.qm_warmstart.proofs.search.Search.center.Given as goal

abbrev pub invariant-loop-node : goal.invariant-loop-node
invariant-loop-node l = l.self.flow ≡ l.initial.self.flow

abbrev pub invariant-loop-node-2 : goal.invariant-loop-node-2
invariant-loop-node-2 l = l.self.flow.cover.now ≡ l.initial.self.flow.cover.now
