use Rattle.std.proofs.Common.{rules, get_or, inl, inr, arith}
use Rattle.{std.proofs.lemmas.Bool.cases_lt, cut_laws.proofs.Classes.least_high, cut_laws.proofs.Classes.least_low}
use Rattle.qm_tmesh.proofs.names.least.Goals as goal

pub loop-d-preserved : goal.loop-d-preserved
loop-d-preserved c =
    let i = c.loop-d.invariant in
    record {
      below = λ k l. grind (arith, i.below, c.min-least.ensures);
      among = elim (cases_lt (get_or c.args.darts.now c.loop-d.d-index 0) c.loop-d.least) [
        | inl less ↦ (c.loop-d.d-index, c.loop-d-test.true, omega (arith, c.min-least.ensures))
        | inr more ↦ (i.among.0, i.among.1, omega (arith, i.among.2, c.min-least.ensures))
      ];
    }

pub returns : goal.returns
returns c = search (rules, least_low, least_high)
