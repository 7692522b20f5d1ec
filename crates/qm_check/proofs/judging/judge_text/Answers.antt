use Rattle.std.proofs.Common.{rules, sym}
use Rattle.{std.proofs.Common.◌∙◌, qm_check.proofs.Reach.told_reach, error_laws.proofs.Errors.handed}
use Rattle.qm_check.proofs.Verdicts.{finishes, net_is, other, tells_nothing, unused}
use Rattle.qm_check.proofs.judging.judge_text.Goals as goal

pub returns-in_err-certs-clause-refused : goal.returns-in_err-certs-clause-refused
returns-in_err-certs-clause-refused c task is = search (rules, handed, tells_nothing)

pub check_certs-requires : goal.check_certs-requires
check_certs-requires c = search (rules, told_reach)

pub returns-in_err-checked-clause-refused : goal.returns-in_err-checked-clause-refused
returns-in_err-checked-clause-refused c task is =
    let text = c.args.text.now in
    handed _ _ _ c.from_residual-in_err-checked.ensures.1 (unused text.bytes.now text.head.line is
    c.in_ok-certs.ensures.told c.in_err-checked.field-0.0 (c.in_err-checked.ensures.unused task.wish (net_is is)))

pub lines_between-requires : goal.lines_between-requires
lines_between-requires c =
    (c.requires.ready.0.wish, (c.in_ok-checked.ensures.checked _ (net_is c.requires.ready.1)).kept)

pub compare-requires : goal.compare-requires
compare-requires c = record {
  kept = (c.requires.ready.0.wish, (c.in_ok-checked.ensures.checked _ (net_is c.requires.ready.1)).kept);
}

pub returns-in_err-new-clause-refused : goal.returns-in_err-new-clause-refused
returns-in_err-new-clause-refused c task is =
    let text = c.args.text.now in
    handed _ _ _ c.from_residual-in_err-new.ensures.1 (other text.bytes.now text.head.line is c.in_ok-certs.ensures.told
    (c.in_ok-checked.ensures.checked task.wish (net_is is)) c.in_ok-between.between
    (rw c.as_deref.ensures.value at c.in_ok-between.ensures) c.in_err-new.field-0.0
    (rw c.written_text.ensures at c.in_err-new.ensures.other))

pub returns-clause-finished : goal.returns-clause-finished
returns-clause-finished c task is = finishes c.args.text.now.bytes.now c.args.text.now.head.line is
    c.in_ok-certs.ensures.told (c.in_ok-checked.ensures.checked task.wish (net_is is)) c.in_ok-between.between
    (rw c.as_deref.ensures.value at c.in_ok-between.ensures) c.in_ok-new.new c.in_ok-new.ensures.new
    (sym c.written_text.ensures ∙ c.in_ok-new.ensures.same)
