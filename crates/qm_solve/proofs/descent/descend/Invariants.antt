use Rattle.std.proofs.Common.{◌≡◌, ◌+◌}
use Rattle.def_flow.specs.{Network.network, Admissible.deviation, Admissible.entries}
use Rattle.qm_solve.proofs.descent.descend.Given as goal

abbrev pub invariant-loop-descent : goal.invariant-loop-descent
invariant-loop-descent l = l.descent.net.whole.now ≡ l.net.whole.now

abbrev pub decreases-loop-descent : goal.decreases-loop-descent
decreases-loop-descent l = deviation (network l.net.whole.now) (entries l.descent.x.items) + l.descent.step
