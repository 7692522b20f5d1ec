use Rattle.std.proofs.Common.{rules, ◌≡◌, ◌∷◌, ◌++◌, length, ap, ◌∙◌, refl, subst, arith, append_assoc}
use Rattle.{std.proofs.lemmas.List.nil_from_length, error_laws.proofs.Errors.handed, def_flow.specs.Network.network}
use Rattle.{std.specs.Vec.Iter.into_iter_items, qm_check.specs.Checked.AreInReach, remesh_laws.proofs.Keeps.are_lengths}
use Rattle.{def_certtext.specs.declared.certs.Certs.TheVariants.Risen}
use Rattle.def_certtext.specs.CertLines.{alone, lists_of, risen, risen_by, Certificates}
use Rattle.qm_check.proofs.Kept.{checkable, checked_there, doubling_of, needed_there, passed_more, reach_behind}
use Rattle.qm_check.proofs.Kept.{risen_append, unused_last, unused_rises, unused_there}
use Rattle.qm_check.proofs.rounds.check_rounds.Goals.{In-None, In-Some}
use Rattle.qm_check.proofs.rounds.check_rounds.Goals as goal

-- ---- In a round.

-- The certificates of the text, behind those that are passed.
left_is : (c : In-Some) → c.rounds.passed.items ++ c.in-Some.round ∷ into_iter_items c.next.new.self
    ≡ c.args.run.rounds.items
left_is c = rw (← c.in-Some.ensures.steps.0) c.rounds.invariant.left

abbrev from : (c : In-Some) → Certificates
from c = risen (lists_of c.in-Some.round.cert) c.in-Some.round.rises.items
    (risen_by (into_iter_items c.next.new.self) (alone (lists_of c.args.run.cert)))

told_is : (c : In-Some) → risen_by c.args.run.rounds.items (alone (lists_of c.args.run.cert))
    ≡ risen_by c.rounds.passed.items (from c)
told_is c = search (rules, risen_append)

pub check_lengths-requires : goal.check_lengths-requires
check_lengths-requires c =
    let at = (goal.at.check_lengths-requires c).In-Some in
    let reach = reach_behind c.args.terms.rising c.rounds.passed.items (from at)
    (subst (AreInReach c.args.terms.rising) (told_is at) c.requires.run.reach) in
    record { cert = checkable (c.rounds.invariant.passed _ c.requires.run.of_layout).risen reach.0 }

pub returns-in_err-numbering-clause-unused : goal.returns-in_err-numbering-clause-unused
returns-in_err-numbering-clause-unused c wish for =
    let at = (goal.at.returns-in_err-numbering-clause-unused c).In-Some in
    rw (told_is at) (handed _ _ _ c.from_residual.ensures.1 (unused_there (c.rounds.invariant.passed wish for) (from at)
    c.in-Some.round.cert c.in_err-numbering.field-0.0 refl c.in_err-numbering.ensures.refused))

pub returns-in-Whole-clause-checked : goal.returns-in-Whole-clause-checked
returns-in-Whole-clause-checked c wish for =
    let at = (goal.at.returns-in-Whole-clause-checked c).In-Some in
    rw (c.checked_by.ensures, told_is at) (checked_there (c.rounds.invariant.passed wish for) c.args.terms.rising
    (from at) c.in-Some.round.cert (Risen c.rounds.passed c.in-Some.round.cert) refl
    (subst (AreInReach c.args.terms.rising) (told_is at) c.requires.run.reach) refl
    c.in_ok-numbering.ensures.solved (rw c.in-Whole.is at c.in_ok-numbering.ensures.gives))

pub check_rises-requires-clause-long : goal.check_rises-requires-clause-long
check_rises-requires-clause-long c = c.in_ok-numbering.ensures.solved.accepted.count
    ∙ (c.rounds.invariant.passed c.requires.run.wish c.requires.run.of_layout).risen.is.long

pub check_rises-requires-clause-lengths : goal.check_rises-requires-clause-lengths
check_rises-requires-clause-lengths c = are_lengths c.args.cut.now.layout c.args.terms.settings (network c.rounds.net)
    c.in-Some.round.cert c.in-Some.round.cert.x.items (c.rounds.invariant.passed c.requires.run.wish
    c.requires.run.of_layout).risen c.in_ok-numbering.ensures.solved refl

pub returns-in_err-check_rises-clause-unused : goal.returns-in_err-check_rises-clause-unused
returns-in_err-check_rises-clause-unused c wish for =
    let passed = c.rounds.invariant.passed wish for in
    rw (told_is (goal.at.returns-in_err-check_rises-clause-unused c).In-Some)
    (handed _ _ _ c.from_residual-in_err-check_rises.ensures.1 (unused_rises passed c.in-Some.round _ _
    c.in_err-check_rises.field-0.0 (omega (arith, c.len.ensures, c.rounds.passed.ok.0))
    (doubling_of c.in-Some.round.cert passed.risen c.in_ok-numbering.ensures.solved
    (rw c.in-Doubled.is at c.in_ok-numbering.ensures.gives)) c.in_err-check_rises.ensures.refused))

pub with_rises-net-requires : goal.with_rises-net-requires
with_rises-net-requires c k d low =
    let long = (c.rounds.invariant.passed c.requires.run.wish c.requires.run.of_layout).risen.is.long in
    let same = c.deref.ensures.value in
    let there = needed_there c.in_ok-check_rises.ensures.needed k d (omega (arith, low, ap length same)) in
    rw same (omega (arith, there, long))

pub rounds-preserved : goal.rounds-preserved
rounds-preserved c =
    let more = c.in_ok-push_round.ensures in
    record {
      left = rw (more, append_assoc) (left_is (goal.at.rounds-preserved c).In-Some);
      many = omega (arith, c.rounds.invariant.many, ap length c.in-Some.ensures.steps.0);
      passed = λ wish for.
          rw more (passed_more (c.rounds.invariant.passed wish for) c.in-Some.round (network c.with_rises-net.result)
          c.in_ok-numbering.ensures.solved (rw c.in-Doubled.is at c.in_ok-numbering.ensures.gives)
          c.in_ok-check_rises.ensures.needed (rw (← c.deref.ensures.value) c.with_rises-net.ensures));
    }

-- ---- Behind the last round.

-- All rounds are passed.
all_passed : (c : In-None) → c.args.run.rounds.items ≡ c.rounds.passed.items
all_passed c = search (rules, nil_from_length)

pub check_lengths-requires-2 : goal.check_lengths-requires-2
check_lengths-requires-2 c = record {
  cert = checkable (c.rounds.invariant.passed _ c.requires.run.of_layout).risen (reach_behind c.args.terms.rising
      c.args.run.rounds.items (alone (lists_of c.args.run.cert)) c.requires.run.reach);
}

pub returns-in_err-numbering-2-clause-unused : goal.returns-in_err-numbering-2-clause-unused
returns-in_err-numbering-2-clause-unused c wish for =
    rw (all_passed (goal.at.returns-in_err-numbering-2-clause-unused c).In-None)
    (handed _ _ _ c.from_residual-in_err-numbering-2.ensures.1 (unused_there (c.rounds.invariant.passed wish for)
    (alone (lists_of c.args.run.cert)) c.args.run.cert c.in_err-numbering-2.field-0.0 refl
    c.in_err-numbering-2.ensures.refused))

pub returns-in-Whole-2-clause-checked : goal.returns-in-Whole-2-clause-checked
returns-in-Whole-2-clause-checked c wish for =
    let all = all_passed (goal.at.returns-in-Whole-2-clause-checked c).In-None in
    rw (c.checked_by-in-Whole-2.ensures, all) (checked_there (c.rounds.invariant.passed wish for) c.args.terms.rising
    (alone (lists_of c.args.run.cert)) c.args.run.cert (Risen c.rounds.passed c.args.run.cert) refl
    (rw all at c.requires.run.reach) refl c.in_ok-numbering-2.ensures.solved
    (rw c.in-Whole-2.is at c.in_ok-numbering-2.ensures.gives))

pub returns-in-Doubled-2-clause-unused : goal.returns-in-Doubled-2-clause-unused
returns-in-Doubled-2-clause-unused c wish for = rw (all_passed (goal.at.returns-in-Doubled-2-clause-unused c).In-None)
    (unused_last (c.rounds.invariant.passed wish for) c.args.run.cert c.in_ok-numbering-2.ensures.solved
    (rw c.in-Doubled-2.is at c.in_ok-numbering-2.ensures.gives))
