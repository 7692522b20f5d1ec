use Rattle.std.proofs.Common.{rules, ap, cond, ◌+◌, ◌∙◌, ◌≡◌}
use Rattle.qm_marks.proofs.{LineMarks.counted_next, lines.count_vertex_lines.Goals.After-drop-joined}
use Rattle.qm_obj.proofs.Groups.{group_span, single_span, single_text, span_within, group_text}
use Rattle.{std.specs.Prelude.slice_range, qm_obj.specs.Ahead.span, qm_obj.specs.Ahead.text_ahead}
use Rattle.{def_io.specs.Lines.lines_of, def_text.specs.Reading.begins_with, def_text.specs.Words.words}
use Rattle.qm_marks.proofs.lines.count_vertex_lines.Goals as goal

next : (c : After-drop-joined) → c.in_ok-joined.joined.next
    ≡ c.loop-i.i + span (slice_range (lines_of c.args.lines.now) c.loop-i.i c.args.after)
next c = search (rules, group_span)

pub loop-i-smaller-then-may_go_on : goal.loop-i-smaller-then-may_go_on
loop-i-smaller-then-may_go_on c = search (rules, span_within, next)

pub loop-i-preserved-then-may_go_on : goal.loop-i-preserved-then-may_go_on
loop-i-preserved-then-may_go_on c =
    let text : c.deref.result.now ≡ text_ahead (slice_range (lines_of c.args.lines.now) c.loop-i.i c.args.after) =
    c.deref.ensures.value ∙ (c.in_ok-joined.ensures.bytes
    ∙ group_text (slice_range (lines_of c.args.lines.now) c.loop-i.i c.args.after)) in
    counted_next c.loop-i-test.true c.requires.within c.loop-i.invariant (next c)
    (c.vertices_of-count.ensures ∙ ap (λ xs. cond (begins_with 118 (words xs)) 1 0) text)

pub loop-i-preserved : goal.loop-i-preserved
loop-i-preserved c =
    let off = c.may_go_on.ensures c.if-may_go_on.false in
    counted_next c.loop-i-test.true c.requires.within c.loop-i.invariant
    (ap (λ n. c.loop-i.i + n) (single_span (lines_of c.args.lines.now) c.loop-i.i c.args.after c.loop-i-test.true
    c.requires.within c.line-line.result.now c.line-line.ensures off))
    (c.vertices_of-count-else-may_go_on.ensures ∙ ap (λ xs. cond (begins_with 118 (words xs)) 1 0)
    (c.before_comment.ensures ∙ single_text (lines_of c.args.lines.now) c.loop-i.i c.args.after c.loop-i-test.true
    c.requires.within c.line-line.result.now c.line-line.ensures off))
