use Rattle.{std.proofs.Common.rules, std.proofs.Common.◌∙◌, std.proofs.Common.refl, qm_top.proofs.Refusals.writer_runs}
use Rattle.qm_top.proofs.{Benched.bench_writer, Benched.made_ended, Refusals.handed_run, Refusals.memory_ended}
use Rattle.qm_top.proofs.bench.bench.Goals as goal

pub bench_mesh-requires : goal.bench_mesh-requires
bench_mesh-requires g c = c.in_ok-made.ensures.soup ∙ c.in_ok-soup.ensures.soup

pub returns-in_err-soup : goal.returns-in_err-soup
returns-in_err-soup g c state = handed_run _ c.from_residual.ensures.1 memory_ended refl

pub returns-in_err-made : goal.returns-in_err-made
returns-in_err-made g c state = handed_run c.in_err-made.field-0.0 c.from_residual-in_err-made.ensures.1
    (made_ended c.args.size (refl, refl) c.in_err-made.field-0.0 (rw c.in_ok-soup.ensures.soup
    at c.in_err-made.ensures.refused)) refl

pub returns : goal.returns
returns g c state = search (rules, writer_runs, bench_writer)
