use Rattle.std.proofs.Common.{rules, arith, ◌+◌, ◌-◌, ◌≡◌}
use Rattle.qm_certtext.proofs.{Chosen.holds_none, Found.behind_fail, Found.read_next, Found.hold_none}
use Rattle.qm_io.proofs.Cuts.{cut_behind, cut_is, cut_there, whole_tail}
use Rattle.{def_io.specs.Lines.lines_of, error_laws.proofs.Errors.handed}
use Rattle.qm_certtext.proofs.written.read_behind.Goals as goal

pub lines-init : goal.lines-init
lines-init c =
    let none : c.args.from - c.args.from ≡ 0 = omega arith in
    let new = c.new-found.ensures in
    let holds = hold_none c.args.rising c.new-found.result new.first new.rounds
    (holds_none new.lengths new.vertices new.sets) in
    search (rules, whole_tail)

pub returns-in_err-take_text-clause-fails : goal.returns-in_err-take_text-clause-fails
returns-in_err-take_text-clause-fails c =
    let text = c.args.text.now in
    let k = c.lines.i - c.args.from in
    let line = c.in-Some.line.now in
    let cut = c.in-Some.ensures in
    let there = cut_there text _ k c.lines.invariant.rest _ _ cut.line cut.rest in
    let is = cut_is text _ k c.lines.invariant.rest _ _ cut.line cut.rest in
    let number : c.lines.i + 1 ≡ c.args.from + 1 + k = omega arith in
    handed _ _ _ c.from_residual.ensures.1
    (behind_fail c.args.rising (lines_of text) k line c.lines.found there is (c.args.from + 1)
    c.in_err-take_text.field-0.0 c.lines.invariant.read (rw (← number) c.in_err-take_text.ensures.fails))

pub lines-preserved : goal.lines-preserved
lines-preserved c =
    let text = c.args.text.now in
    let k = c.lines.i - c.args.from in
    let line = c.in-Some.line.now in
    let cut = c.in-Some.ensures in
    let there = cut_there text _ k c.lines.invariant.rest _ _ cut.line cut.rest in
    let is = cut_is text _ k c.lines.invariant.rest _ _ cut.line cut.rest in
    let next : c.lines.i + 1 - c.args.from ≡ k + 1 = omega arith in
    record {
      order = omega arith;
      rest = rw next (cut_behind text _ k c.lines.invariant.rest _ _ cut.line cut.rest);
      low = omega arith;
      read = rw next (read_next _ _ k _ _ there is _ c.lines.invariant.read c.in_ok-take_text.ensures.taken);
    }
