use Rattle.std.proofs.Common.{◌≡◌, ◌+◌}
use Rattle.def_flow.specs.{Network.network, Admissible.deviation, Admissible.entries}
use Rattle.qm_bench.proofs.rounds.descend.Given as goal

abbrev pub invariant-loop-left : goal.invariant-loop-left
invariant-loop-left l = l.descent.net.whole.now ≡ l.initial.descent.net.whole.now

abbrev pub decreases-loop-left : goal.decreases-loop-left
decreases-loop-left l = deviation (network l.descent.net.whole.now) (entries l.descent.x.items) + l.descent.step
