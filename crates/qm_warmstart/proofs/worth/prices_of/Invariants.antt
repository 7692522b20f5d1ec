use Rattle.std.proofs.Common.{◌≡◌, length}
use Rattle.qm_warmstart.proofs.worth.prices_of.Given as goal

abbrev pub invariant-loop-node : goal.invariant-loop-node
invariant-loop-node l = length l.at.items ≡ l.node

abbrev pub invariant-loop-k : goal.invariant-loop-k
invariant-loop-k l = l.prices.net ≡ l.chains.net
