use Rattle.qm_top.proofs.{Refined.is_gridded, Refusals.broke, Refusals.wrote}
use Rattle.{error_laws.proofs.Errors.handed}
use Rattle.qm_top.proofs.grids.write_grids.Goals as goal

pub returns-in_err-write_blocks-clause-refused : goal.returns-in_err-write_blocks-clause-refused
returns-in_err-write_blocks-clause-refused g c = handed _ _ _ c.from_residual-in_err-write_blocks.ensures.1
    (broke _ (is_gridded c.requires.some c.requires.laid c.in_ok-blocks.ensures.blocks)
    c.in_err-write_blocks.ensures.prefix c.in_err-write_blocks.ensures.fault)

pub returns-clause-done : goal.returns-clause-done
returns-clause-done g c = wrote _ (is_gridded c.requires.some c.requires.laid c.in_ok-blocks.ensures.blocks)
    c.in_ok-write_blocks.ensures.whole
