use Rattle.{std.proofs.Common.rules, qm_obj.proofs.Groups.span_within, error_laws.proofs.Errors.handed}
use Rattle.qm_marks.proofs.LineMarks.{ahead, at_inner, at_next, ends, left_none, left_refused, room}
use Rattle.qm_marks.proofs.lines.read_marks.Goals as goal

pub take_logical-requires-clause-room : goal.take_logical-requires-clause-room
take_logical-requires-clause-room c = room (ahead c.loop-i.invariant c.loop-i-test.true c.requires.within)

pub returns-in_err-i-clause-refused : goal.returns-in_err-i-clause-refused
returns-in_err-i-clause-refused c = handed _ _ _ c.from_residual-in_err-i.ensures.1 (λ other.
    left_refused (ahead c.loop-i.invariant c.loop-i-test.true c.requires.within) _ (c.in_err-i.ensures.refused other))

pub loop-i-smaller : goal.loop-i-smaller
loop-i-smaller c = search (rules, span_within)

pub loop-i-preserved : goal.loop-i-preserved
loop-i-preserved c =
    at_next c.loop-i.invariant c.loop-i-test.true c.requires.within c.in_ok-i.ensures.next c.in_ok-i.ensures.took

pub returns-clause-marks : goal.returns-clause-marks
returns-clause-marks c = left_none (ends c.loop-i.invariant c.loop-i-test.false)

pub returns-clause-inner : goal.returns-clause-inner
returns-clause-inner c = at_inner c.loop-i.invariant c.loop-i-test.false c.faces-known.ensures.mesh.manifold
