use Rattle.{std.proofs.Common.rules, std.proofs.Common.arith, qm_gadget.proofs.Numbers.places_two}
use Rattle.{qm_gadget.proofs.Numbers.unit_two, qm_gadget.specs.Layout.copies_in, gadget_laws.proofs.Pick.choice_length}
use Rattle.qm_gadget.proofs.marks.push_unit_marks.Goals as goal

pub returns-in-None-clause-marks : goal.returns-in-None-clause-marks
returns-in-None-clause-marks c = search (rules, places_two, choice_length)

pub returns-in_ok-push_right_marks-in-Some-clause-marks : goal.returns-in_ok-push_right_marks-in-Some-clause-marks
returns-in_ok-push_right_marks-in-Some-clause-marks c =
    let ends = rw c.in-Some.is at c.args.counted.now.at in
    let taken = c.bump.ensures.each c.in-Some.right.node (omega (arith, ends.1, c.requires.same)) in
    rw c.in-Some.is (unit_two _ _ _ c.args.k (copies_in c.args.counted.now.counts.now) (copies_in c.args.used.now)
    (copies_in c.bump.new.counts) c.args.on _ _ taken c.in_ok-push_end_marks.ensures
    c.in_ok-push_right_marks-in-Some.ensures)
