use Rattle.std.proofs.{Common.inl, Common.inr, Common.arith, lemmas.Bool.cases_lt, lemmas.List.Sorted.searched}
use Rattle.qm_marks.proofs.ends.place_of.Goals as goal

pub returns-in-Err : goal.returns-in-Err
returns-in-Err c k low above =
    let at = rw c.in-Err.is at (searched c.args.keys.now c.args.key _ c.binary_search.ensures.position
    (λ i j le l. c.requires i j 0 le l)) in
    elim (cases_lt k c.in-Err.place) [
      | inl less ↦ absurd (omega (arith, at.1 k less))
      | inr more ↦ (
        omega arith,
        omega (arith, at.2 c.in-Err.place (omega arith) (omega arith)),
        c.requires c.in-Err.place k 0 more low,
      )
    ]
