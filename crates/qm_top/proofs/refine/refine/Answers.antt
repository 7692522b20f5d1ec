use Rattle.std.proofs.Common.{refl}
use Rattle.qm_top.proofs.{Refined.refine_writer, Refusals.halts, Refusals.writer_runs}
use Rattle.qm_top.proofs.refine.refine.Goals as goal

pub returns-in_err-read : goal.returns-in_err-read
returns-in_err-read g c = halts c.in_err-read.field-0.0 tt c.from_residual.ensures.1 c.in_err-read.ensures.refused refl

pub returns : goal.returns
returns g c =
    let read = c.in_ok-read.ensures in
    writer_runs _ (refine_writer c.args.by _ read.manifold read.soup read.calm) c.refine_mesh.result
    c.refine_mesh.ensures.done c.refine_mesh.ensures.refused
