use Rattle.std.proofs.Common.{◌≡◌, length}
use Rattle.qm_warmstart.proofs.trails.round.Given as goal

abbrev pub invariant-loop-chain : goal.invariant-loop-chain
invariant-loop-chain l = l.halves.flow.now ≡ l.flow

abbrev pub invariant-loop-chain-2 : goal.invariant-loop-chain-2
invariant-loop-chain-2 l = l.halves.flow.now ≡ l.flow

abbrev pub invariant-loop-chain-3 : goal.invariant-loop-chain-3
invariant-loop-chain-3 l = length l.lengths.items ≡ l.chain
