use Rattle.std.proofs.Common.{refl}
use Rattle.qm_top.proofs.{Refusals.halts, Remeshed.remesh_tasked, Remeshed.task_writer, Refusals.writer_runs}
use Rattle.qm_top.proofs.remesh.remesh.Goals as goal

pub returns-in_err-read : goal.returns-in_err-read
returns-in_err-read g c = halts c.in_err-read.field-0.0 tt c.from_residual.ensures.1 c.in_err-read.ensures.refused refl

pub returns : goal.returns
returns g c =
    let read = c.in_ok-read.ensures in
    writer_runs _ (task_writer tt (remesh_tasked c.requires) read.manifold read.soup read.calm) c.remesh_mesh.result
    (c.remesh_mesh.ensures.done read.soup.bytes) (c.remesh_mesh.ensures.refused read.soup.bytes)
