use Rattle.std.proofs.Common.{rules, refl}
use Rattle.qm_top.proofs.{Refined.blocks_writer, Refusals.halts, Refusals.writer_runs}
use Rattle.qm_top.proofs.blocks.blocks.Goals as goal

pub returns-in_err-read : goal.returns-in_err-read
returns-in_err-read g c = halts c.in_err-read.field-0.0 tt c.from_residual.ensures.1 c.in_err-read.ensures.refused refl

pub returns : goal.returns
returns g c = search (rules, writer_runs, blocks_writer)
