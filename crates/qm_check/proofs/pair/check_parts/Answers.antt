use Rattle.{std.proofs.Common.rules, error_laws.proofs.Errors.handed}
use Rattle.qm_check.proofs.Pairs.{counted, no_head, remesh_found, text_fails, unmade_fails, IsAskedAt}
use Rattle.qm_check.proofs.{Points.remesh_line, Tasks.few_found, pair.check_parts.Goals.In-Some}
use Rattle.qm_check.proofs.pair.check_parts.Goals as goal

-- The line behind the old text asks for a remesh.
asked : (c : In-Some) → IsAskedAt c.args.text.now.bytes.now c.old_text-front.result.bytes.now c.args.text.now.head.line
    c.in_ok-old.old c.in-Some.asked.settings c.in-Some.asked.auto
asked c = search rules

pub returns-in_default-clause-refused : goal.returns-in_default-clause-refused
returns-in_default-clause-refused c = no_head c.args.text.now.bytes.now c.old_text-front.result.bytes.now
    c.args.text.now.head.line c.requires.last c.old_text-front.ensures.lines c.in_ok-old.old c.in_ok-old.ensures.old
    (rw c.head_line-line.ensures at c.in_default.ensures)

pub ready_for-requires-clause-line : goal.ready_for-requires-clause-line
ready_for-requires-clause-line c = (_, remesh_line c.in-Some.ensures c.remeshed.ensures)

pub returns-in_err-ready-clause-refused : goal.returns-in_err-ready-clause-refused
returns-in_err-ready-clause-refused c = handed _ _ _ c.from_residual-in_err-ready.ensures.1
    (unmade_fails (asked (goal.at.returns-in_err-ready-clause-refused c).In-Some) c.in_err-ready.field-0.0
    (c.in_err-ready.ensures.unmade _ (remesh_line c.in-Some.ensures c.remeshed.ensures)))

pub judge_text-requires : goal.judge_text-requires
judge_text-requires c =
    let for = c.in_ok-ready.ensures.ready _ (remesh_line c.in-Some.ensures c.remeshed.ensures) in
    record { ready = (for.task, for.holds) }

pub returns-in_err-finished-clause-refused : goal.returns-in_err-finished-clause-refused
returns-in_err-finished-clause-refused c =
    let asks = asked (goal.at.returns-in_err-finished-clause-refused c).In-Some in
    let for = c.in_ok-ready.ensures.ready _ (remesh_line c.in-Some.ensures c.remeshed.ensures) in
    handed _ _ _ c.from_residual-in_err-finished.ensures.1 (text_fails asks for
    c.in_ok-ready.ensures.soup c.in_err-finished.field-0.0 (c.in_err-finished.ensures.refused for.task for.holds))

pub told_of-requires : goal.told_of-requires
told_of-requires c =
    let for = c.in_ok-ready.ensures.ready _ (remesh_line c.in-Some.ensures c.remeshed.ensures) in
    few_found (remesh_found (asked (goal.at.told_of-requires c).In-Some) for c.in_ok-ready.ensures.soup
    (c.in_ok-finished.ensures.finished for.task for.holds))

pub returns-clause-accepted : goal.returns-clause-accepted
returns-clause-accepted c =
    let for = c.in_ok-ready.ensures.ready _ (remesh_line c.in-Some.ensures c.remeshed.ensures) in
    counted (asked (goal.at.returns-clause-accepted c).In-Some) for c.in_ok-ready.ensures.soup
    (c.in_ok-finished.ensures.finished for.task for.holds) c.told_of.ensures.arcs c.told_of.ensures.faces
    c.told_of.ensures.deviation
