use Rattle.std.proofs.Common.{rules, true, false, ◌≡◌, set, sym, ap, ◌∙◌, arith}
use Rattle.{std.proofs.lemmas.List.get_or_default, def_cut.specs.Motion.begun, def_cut.specs.Events.rider_at}
use Rattle.qm_trace.proofs.Tellings.{some_run, some_untold, told_counted}
use Rattle.qm_trace.proofs.telling.tell_one.Goals.{then-is_some, else-is_some}
use Rattle.qm_trace.proofs.telling.tell_one.Goals as goal

pub overflow_sub-riders : goal.overflow_sub-riders
overflow_sub-riders c = omega (arith, some_run c.requires.counted c.requires.may)

pub overflow_sub-riders-2 : goal.overflow_sub-riders-2
overflow_sub-riders-2 c = search (rules, some_untold)

pub returns-clause-counted : goal.returns-clause-counted
returns-clause-counted c =
    let same : c.index-rider.result.now ≡ rider_at c.args.riders.now.list.items c.args.r = c.index-rider.ensures
    ∙ get_or_default _ c.args.r c.index-rider.result.now (begun 0) c.requires.may.rider in
    let is = rw (same, c.deref.ensures.value) at c.tell-told.ensures in
    let list = ap (set c.args.riders.now.list.items c.args.r) is in
    let run = some_run c.requires.counted c.requires.may in
    let untold = some_untold c.requires.counted c.requires.may in
    elim c.if-is_some.branch [
      | then-is_some w ↦ rw w.riders-is (told_counted c.requires.counted c.requires.may true list (omega arith)
          (rw is at (sym c.is_some.ensures ∙ w.if-is_some.true)) (omega arith))
      | else-is_some w ↦ rw w.riders-is (told_counted c.requires.counted c.requires.may false list (omega arith)
          (rw is at (sym c.is_some.ensures ∙ w.if-is_some.false)) (omega arith))
    ]
