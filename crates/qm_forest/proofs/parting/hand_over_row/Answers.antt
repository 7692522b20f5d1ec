use Rattle.std.proofs.Common.{rules}
use Rattle.{std.proofs.Common.add-one, qm_forest.proofs.JoinedLists.part_needs, qm_forest.proofs.JoinedLists.row_more}
use Rattle.qm_forest.proofs.parting.hand_over_row.Goals as goal

pub hand_over-requires : goal.hand_over-requires
hand_over-requires c = assumption (part_needs c.requires c.loop-test.true c.loop.invariant.here c.loop.invariant.done)

pub loop-preserved : goal.loop-preserved
loop-preserved c = record { here = rw (add-one _, c.loop.invariant.here); done = search (rules, row_more, add-one) }
