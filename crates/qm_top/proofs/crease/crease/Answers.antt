use Rattle.{std.proofs.Common.refl, qm_top.proofs.Remeshed.crease_tasked, qm_top.proofs.Remeshed.task_writer}
use Rattle.{qm_top.proofs.Refusals.marks_run, qm_top.proofs.Refusals.meshless_run, qm_top.proofs.Refusals.writer_runs}
use Rattle.qm_top.proofs.crease.crease.Goals as goal

pub returns-in_err-read : goal.returns-in_err-read
returns-in_err-read g c =
    let given = c.in_ok-lines.ensures in
    meshless_run tt (record { given = given.bytes; ended = given.whole; few = given.short }) given.calm
    c.in_err-read.field-0.0 c.from_residual-in_err-read.ensures.1 c.in_err-read.ensures.refused refl

pub returns-in_err-marks : goal.returns-in_err-marks
returns-in_err-marks g c =
    let given = c.in_ok-lines.ensures in
    marks_run tt (record { given = given.bytes; ended = given.whole; few = given.short }) given.calm
    c.in_err-marks.field-0.0 c.from_residual-in_err-marks.ensures.1 (λ other. record {
      soup = c.in_ok-read.read;
      mesh = c.in_ok-read.ensures.mesh;
      said = c.in_err-marks.ensures.refused other;
    }) refl

pub returns : goal.returns
returns g c =
    let given = c.in_ok-lines.ensures in
    let lines = c.in_ok-lines.lines in
    let mesh = c.in_ok-read.ensures.mesh in
    let said = c.in_ok-marks.ensures.marks in
    writer_runs _ (task_writer tt (crease_tasked c.requires) mesh.manifold (record {
      bytes = lines;
      whole = record { given = given.bytes; ended = given.whole; few = given.short };
      said = mesh.said;
    }) given.calm) c.crease_mesh.result (c.crease_mesh.ensures.done lines said)
    (c.crease_mesh.ensures.refused lines said)
