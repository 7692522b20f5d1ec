use Rattle.std.proofs.Common.{refl}
use Rattle.qm_top.proofs.{Refusals.halts, Remeshed.coarse_tasked, Remeshed.task_writer, Refusals.writer_runs}
use Rattle.qm_top.proofs.coarse.coarse.Goals as goal

pub returns-in_err-read : goal.returns-in_err-read
returns-in_err-read g c = halts c.in_err-read.field-0.0 tt c.from_residual.ensures.1 c.in_err-read.ensures.refused refl

pub returns : goal.returns
returns g c =
    let read = c.in_ok-read.ensures in
    writer_runs _ (task_writer tt (coarse_tasked c.requires) read.manifold read.soup read.calm) c.coarse_mesh.result
    (c.coarse_mesh.ensures.done read.soup.bytes) (c.coarse_mesh.ensures.refused read.soup.bytes)
