use Rattle.std.specs.Prelude.{unsigned_abs}
use Rattle.std.proofs.Common.{◌≤◌, refl, arith, rules}
use Rattle.qm_top.proofs.{Remeshed.aimed_writer, Remeshed.size_aimed, Refusals.halts, Refusals.writer_runs}
use Rattle.qm_top.proofs.size.size.Goals as goal

pub returns-in_err-read : goal.returns-in_err-read
returns-in_err-read g c = halts c.in_err-read.field-0.0 tt c.from_residual.ensures.1 c.in_err-read.ensures.refused refl

pub returns : goal.returns
returns g c =
    let near : unsigned_abs c.args.edge ≤ 999_999_999_999_999 = search rules in
    let read = c.in_ok-read.ensures in
    writer_runs _
    (aimed_writer tt (size_aimed near (omega (arith, c.requires.floor.1))) read.manifold read.soup read.calm)
    c.size_mesh.result (c.size_mesh.ensures.done read.soup.bytes) (c.size_mesh.ensures.refused read.soup.bytes)
