use Rattle.std.proofs.{Common.arith, Common.inl, Common.inr, lemmas.Bool.cases_eq}
use Rattle.qm_mesh.proofs.Marks.{walk_more}
use Rattle.qm_mesh.proofs.one_fan.Corners.turn.Goals as goal

pub loop-next-preserved : goal.loop-next-preserved
loop-next-preserved c =
    let same = c.loop-next.invariant.0 in
    let found = rw same at c.in-Some.ensures in (
      same,
      walk_more _ _ _ _ _ _ _ c.loop-next.invariant.1 found.low
          (omega (arith, c.loop-next.self.long, c.in-Some.ensures.low)) found.beside found.unseen,
    )

pub returns-clause-walk : goal.returns-clause-walk
returns-clause-walk c =
    let w = c.loop-next.invariant.1 in
    let all = rw c.loop-next.invariant.0 at c.in_default.ensures in
    record {
      grown = w.grown;
      start_closed = elim (cases_eq c.loop-next.at c.args.start) [ inl q ↦ rw (← q) all | inr ne ↦ w.start_closed ne ];
      closed = λ d s o. elim (cases_eq d c.loop-next.at) [ inl q ↦ rw q all | inr ne ↦ w.closed d ne s o ];
      behind = w.behind;
      reached = w.reached;
    }
