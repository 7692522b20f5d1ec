use Rattle.{std.proofs.Common.refl, qm_top.proofs.Remeshed.aimed_writer, qm_top.proofs.Remeshed.fit_aimed}
use Rattle.{qm_top.proofs.Refusals.marks_run, qm_top.proofs.Refusals.meshless_run, qm_top.proofs.Refusals.writer_runs}
use Rattle.qm_top.proofs.fit.fit.Goals as goal

pub returns-in_err-read : goal.returns-in_err-read
returns-in_err-read g c =
    let given = c.in_ok-lines.ensures in
    meshless_run tt (record { given = given.bytes; ended = given.whole; few = given.short }) given.calm
    c.in_err-read.field-0.0 c.from_residual-in_err-read.ensures.1 c.in_err-read.ensures.refused refl

pub returns-in_err-asides : goal.returns-in_err-asides
returns-in_err-asides g c =
    let given = c.in_ok-lines.ensures in
    marks_run tt (record { given = given.bytes; ended = given.whole; few = given.short }) given.calm
    c.in_err-asides.field-0.0 c.from_residual-in_err-asides.ensures.1 (λ other. record {
      soup = c.in_ok-read.read;
      mesh = c.in_ok-read.ensures.mesh;
      said = c.in_err-asides.ensures.refused other;
    }) refl

pub returns : goal.returns
returns g c =
    let given = c.in_ok-lines.ensures in
    let lines = c.in_ok-lines.lines in
    let mesh = c.in_ok-read.ensures.mesh in
    let said = c.in_ok-asides.ensures.said in
    writer_runs _ (aimed_writer tt (fit_aimed c.requires) mesh.manifold (record {
      bytes = lines;
      whole = record { given = given.bytes; ended = given.whole; few = given.short };
      said = mesh.said;
    }) given.calm) c.fit_mesh.result (c.fit_mesh.ensures.done lines said) (c.fit_mesh.ensures.refused lines said)
