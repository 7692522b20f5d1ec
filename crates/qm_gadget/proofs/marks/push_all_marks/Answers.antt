use Rattle.std.proofs.Common.{rules, ◌≡◌, ℕ, ◌+◌, ◌<◌, length, slice_index, slice_index_or, false, refl, sym, ◌∙◌}
use Rattle.std.proofs.{Common.length-append, Common.arith, Common.pos, lemmas.List.drop_more}
use Rattle.qm_gadget.proofs.NodeCounts.{no_unit, same_everywhere, active_at_low, raised_read}
use Rattle.{gadget_laws.proofs.Pick.links_width, gadget_laws.proofs.Units.unit_length}
use Rattle.{qm_gadget.proofs.Numbers.marks_step, def_flow.specs.Units.active_at, qm_gadget.specs.Layout.copies_in}

pub loop-i-preserved : Rattle.qm_gadget.proofs.marks.push_all_marks.Goals.loop-i-preserved
loop-i-preserved c =
    let us = c.args.laid.now.stated.units.now in
    let ons = c.args.laid.now.stated.ons.now in
    let copies = copies_in c.args.laid.now.counts.now in
    let u = slice_index_or us c.loop-i.i no_unit in
    let on = slice_index_or ons c.loop-i.i false in
    let in_state : c.loop-i.i < length ons = omega (arith, c.args.laid.now.stated.each) in
    let are = rw (drop_more us c.loop-i.i no_unit c.loop-i-test.true, drop_more ons c.loop-i.i false in_state) at
    c.loop-i.invariant in
    let raised = c.in_ok-push_unit_marks.ensures.used in
    let read : (v : ℕ) → slice_index c.push_unit_marks.new.used v ≡ slice_index c.loop-i.used v + active_at v u on =
    search (rules, raised_read) in
    let used = same_everywhere (copies_in c.push_unit_marks.new.used) _ read in
    let width = unit_length copies (copies_in c.loop-i.used) 0 (pos 0) on u.left u.right
    ∙ (links_width copies 0 (pos 0) u.left u.right ∙ sym c.width_of-k.ensures) in
    record {
      marks = rw used (marks_step _ c.loop-i.k _ _ refl width c.in_ok-push_unit_marks.ensures.marks ∙ are.marks);
      place = rw used (omega (arith, are.place, simp length-append at are.place, width));
      long = raised.long ∙ c.loop-i.invariant.long;
      small = λ v. omega (arith, read v, c.loop-i.invariant.small v, active_at_low v u on);
    }
