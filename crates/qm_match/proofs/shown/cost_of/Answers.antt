use Rattle.std.proofs.Common.{◌≤◌, length, slice_index, rules, arith, FitsSigned}
use mir.Syntax.{w64}
use Rattle.qm_match.proofs.Outcomes.{increasing_few, cost_take, increasing_low}
use Rattle.qm_match.proofs.shown.cost_of.Goals as goal

pub loop-edge-preserved : goal.loop-edge-preserved
loop-edge-preserved c = search (rules, cost_take)

pub returns-clause-small : goal.returns-clause-small
returns-clause-small c = search (rules, increasing_few)
