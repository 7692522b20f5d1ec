use Rattle.remesh_laws.proofs.Keeps.{are_lengths, keeps_first, low_floor, solved, too_fine}
use Rattle.qm_remesh.proofs.Leading.{never_rises}
use Rattle.qm_remesh.proofs.keeping.keep_solved.Goals as goal

pub plan_over-requires-clause-lengths : goal.plan_over-requires-clause-lengths
plan_over-requires-clause-lengths c =
    are_lengths _ _ _ c.args.first _ c.requires.net.1 c.requires.solved c.deref.ensures.value

pub raise-requires-clause-coarse : goal.raise-requires-clause-coarse
raise-requires-clause-coarse c =
    (rw (c.in-Err-Doubled.field-0-is, c.deref.ensures.value) at c.in-Err-Doubled.ensures.refused).0

pub raise-requires-clause-doubled : goal.raise-requires-clause-doubled
raise-requires-clause-doubled c =
    let both = rw (c.in-Err-Doubled.field-0-is, c.deref.ensures.value) at c.in-Err-Doubled.ensures.refused in
    (_, _, both.1.doubled)

pub returns-in-Ok-clause-kept : goal.returns-in-Ok-clause-kept
returns-in-Ok-clause-kept c = λ wish for. keeps_first _ _ _ c.args.first _ _ c.deref.ensures.value
    (solved _ _ _ c.args.first for c.requires.solved) (assumption c.in-Ok.ensures)

pub returns-in-Err-TooFine-clause-refused : goal.returns-in-Err-TooFine-clause-refused
returns-in-Err-TooFine-clause-refused c = λ wish for. (
  solved _ _ _ c.args.first for c.requires.solved,
  too_fine _ _ _ _ _ c.deref.ensures.value c.in-Err-TooFine.field-0-is c.in-Err-TooFine.ensures.refused,
)

pub returns-in-Third-clause-kept : goal.returns-in-Third-clause-kept
returns-in-Third-clause-kept c = λ wish for. rw c.in-Third.is (c.raise.ensures.kept wish for)

pub returns-in-Third-clause-refused : goal.returns-in-Third-clause-refused
returns-in-Third-clause-refused c = λ wish for. rw c.in-Third.is (c.raise.ensures.refused wish for)

pub returns-in_default-clause-refused : goal.returns-in_default-clause-refused
returns-in_default-clause-refused c = λ wish for.
    let both = rw (c.in-Err-Doubled.field-0-is, c.deref.ensures.value) at c.in-Err-Doubled.ensures.refused in
    let certified = solved _ _ _ c.args.first for c.requires.solved in
    record {
      given = never_rises c.args.terms.rising c.in_default.not-Third c.requires.known;
      low = low_floor _ _ c.args.first _ _ _ _ _ c.deref.ensures.value certified c.plan_over.ensures.safe
          c.in-Err-Doubled.is c.in-Err-Doubled.field-0-is;
      certified = certified;
      coarse = both.0;
      pair = both.1;
    }
