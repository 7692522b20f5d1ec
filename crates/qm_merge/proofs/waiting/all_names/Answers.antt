use Rattle.std.proofs.{Common.inl, Common.inr, Common.arith, lemmas.Bool.cases_eq}
use Rattle.qm_merge.proofs.waiting.all_names.Goals as goal

pub loop-d-preserved : goal.loop-d-preserved
loop-d-preserved c = let e = c.in_ok-note_from.ensures in
    record {
      tied = e.tied;
      all = λ s t n name l arc named. elim (cases_eq s c.loop-d.d) [
        | inl same ↦ rw same (e.noted t n name (rw same at arc) (rw same at named))
        | inr ne ↦ e.kept s t n name arc named (c.loop-d.invariant.all s t n name (omega (arith, l, ne)) arc named)
      ];
      below = e.below c.loop-d.invariant.below;
    }

pub returns-clause-all : goal.returns-clause-all
returns-clause-all c = λ s t n name arc named. c.loop-d.invariant.all s t n name
    (omega (arith, arc.glued.near.corner.0, c.is_full.ensures.long, c.loop-d-test.false)) arc named
