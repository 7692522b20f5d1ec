use Rattle.qm_top.proofs.{Refined.is_blocked, Refusals.broke, Refusals.wrote}
use Rattle.{error_laws.proofs.Errors.handed}
use Rattle.qm_top.proofs.blocks.blocks_mesh.Goals as goal

pub returns-in_err-write_blocks-clause-refused : goal.returns-in_err-write_blocks-clause-refused
returns-in_err-write_blocks-clause-refused g c = handed _ _ _ c.from_residual-in_err-write_blocks.ensures.1
    (broke _ (is_blocked c.requires.some c.in_ok-blocks.ensures.blocks) c.in_err-write_blocks.ensures.prefix
    c.in_err-write_blocks.ensures.fault)

pub returns-clause-done : goal.returns-clause-done
returns-clause-done g c =
    wrote _ (is_blocked c.requires.some c.in_ok-blocks.ensures.blocks) c.in_ok-write_blocks.ensures.whole
