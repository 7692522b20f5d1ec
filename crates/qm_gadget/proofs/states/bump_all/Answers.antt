use Rattle.std.proofs.{lemmas.Grind.common_steps, Common.rules, Common.arith}
use Rattle.qm_gadget.proofs.NodeCounts.{active_low, active_more}
use Rattle.qm_gadget.proofs.states.bump_all.Goals as goal

pub bump_unit-requires-clause-small : goal.bump_unit-requires-clause-small
bump_unit-requires-clause-small c v = grind (arith, common_steps, active_low)

pub loop-k-preserved : goal.loop-k-preserved
loop-k-preserved c = search (rules, active_more)
