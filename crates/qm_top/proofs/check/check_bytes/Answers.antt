use Rattle.qm_top.proofs.{Mapped.check_placed, Mapped.unaccepted, Mapped.unwritable, Refusals.not_begun}
use Rattle.{std.proofs.Common.refl, def_io.specs.Moves.stream, def_run.specs.Checking.WritesAccepted}
use Rattle.{qm_top.specs.Checking.IsUnaccepted}
use Rattle.qm_top.proofs.check.check_bytes.Goals as goal

pub judged_refusal-requires : goal.judged_refusal-requires
judged_refusal-requires g c = check_placed c.args.bytes.now _ c.in-Err.ensures.refused

pub returns-in-Err-clause-refused : goal.returns-in-Err-clause-refused
returns-in-Err-clause-refused g c = not_begun (WritesAccepted c.args.bytes.now) (IsUnaccepted c.args.bytes.now)
    (stream g.O.Sink.state c.args.out.now c.args.out.now) (unwritable c.args.bytes.now) refl c.judged_refusal.result
    (unaccepted _ c.judged_refusal.result c.in-Err.ensures.refused (c.judged_refusal.ensures.mapped c.args.bytes.now)
    (c.judged_refusal.ensures.pair c.args.bytes.now))
