use Rattle.std.proofs.Common.{rules, ap, arith, drop, length, length-take, sym, take, [], ◌<◌, ◌∙◌, ◌≡◌}
use Rattle.qm_marks.proofs.AllWishes.{at_last, at_other, at_small, at_wish}
use Rattle.qm_marks.proofs.wishes.{read_wishes.Goals.in-Some+in_ok-take_wish, read_wishes.Goals.in_default}
use Rattle.std.proofs.lemmas.List.{get_or-take, take_at}
use Rattle.{def_io.specs.Lines.lines_of, def_mesh.specs.Darts.darts}
use Rattle.qm_marks.proofs.wishes.read_wishes.Goals as goal

pub loop-i-preserved : goal.loop-i-preserved
loop-i-preserved c =
    let known = c.loop-i.invariant in
    let low : c.loop-i.i < length (take c.args.after (lines_of c.args.lines.now)) =
    omega (arith, c.requires.within, c.loop-i-test.true, length-take c.args.after (lines_of c.args.lines.now)) in
    let line = c.line.ensures
    ∙ sym (get_or-take c.args.after (lines_of c.args.lines.now) c.loop-i.i [] c.loop-i-test.true) in
    elim c.match-strip_prefix.branch [
      | in-Some+in_ok-take_wish w ↦
          let new = w.take_wish.new.wishes in
          let taken = w.take_wish.ensures in
          let many : length new ≡ c.loop-i.wishes.len = omega (arith, ap darts c.requires.mesh) in
          rw (w.wishes-is, take_at new (drop (length new) c.loop-i.wishes.items) c.loop-i.wishes.len many)
          (at_wish known low (rw (← line) w.in-Some.ensures.cases.0) (w.in-Some.ensures.cases.1 ∙ ap (drop 3) line) new
          (taken.long ∙ ap darts c.requires.mesh) (rw w.deref_mut.ensures.value at w.in_ok-take_wish.ensures.took))
      | in_default w ↦ rw w.wishes-is (at_other known low (rw (← line) w.in_default.ensures.cases))
    ]

pub returns-clause-wishes : goal.returns-clause-wishes
returns-clause-wishes c = search (rules, at_last)

pub returns-clause-small : goal.returns-clause-small
returns-clause-small c = search (rules, at_small)
