use Rattle.std.proofs.Common.{refl}
use Rattle.qm_top.proofs.{Refined.grids_writer, Refusals.marks_run, Refusals.meshless_run, Refusals.writer_runs}
use Rattle.qm_top.proofs.grids.grids.Goals as goal

pub returns-in_err-read : goal.returns-in_err-read
returns-in_err-read g c =
    let given = c.in_ok-lines.ensures in
    meshless_run tt (record { given = given.bytes; ended = given.whole; few = given.short }) given.calm
    c.in_err-read.field-0.0 c.from_residual-in_err-read.ensures.1 c.in_err-read.ensures.refused refl

pub returns-in_err-kept : goal.returns-in_err-kept
returns-in_err-kept g c =
    let given = c.in_ok-lines.ensures in
    marks_run tt (record { given = given.bytes; ended = given.whole; few = given.short }) given.calm
    c.in_err-kept.field-0.0 c.from_residual-in_err-kept.ensures.1 (λ other. record {
      soup = c.in_ok-read.read;
      mesh = c.in_ok-read.ensures.mesh;
      said = c.in_err-kept.ensures.refused other;
    }) refl

pub chosen_cut-requires : goal.chosen_cut-requires
chosen_cut-requires g c = rw c.as_deref.ensures.value c.in_ok-kept.ensures.inner

pub returns : goal.returns
returns g c =
    let given = c.in_ok-lines.ensures in
    let chosen = c.args.chosen in
    writer_runs _ (grids_writer chosen.keep chosen.patches c.in_ok-cut.cut c.in_ok-read.ensures.mesh
    c.in_ok-kept.ensures.kept c.as_deref.ensures.value c.in_ok-cut.ensures.soup c.in_ok-cut.ensures.chosen _
    (record { given = given.bytes; ended = given.whole; few = given.short }) given.calm c.args.by)
    c.write_grids.result c.write_grids.ensures.done c.write_grids.ensures.refused
