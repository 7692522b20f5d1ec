use Rattle.std.proofs.Common.{rules, add-one}
use Rattle.qm_forest.proofs.RenamedRows.{row_lists, row_leaders, row_more}
use Rattle.qm_forest.proofs.gathering.rename_row.Goals as goal

pub rename_to-requires : goal.rename_to-requires
rename_to-requires c = search (rules, row_lists, row_leaders)

pub loop-preserved : goal.loop-preserved
loop-preserved c = record { here = rw (add-one _, c.loop.invariant.here); done = search (rules, row_more, add-one) }
