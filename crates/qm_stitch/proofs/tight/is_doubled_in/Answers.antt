use Rattle.std.proofs.Common.{arith}
use Rattle.{std.proofs.lemmas.Bool.cases_eq, std.proofs.lemmas.Bool.false≢true}
use Rattle.qm_stitch.proofs.tight.is_doubled_in.Goals as goal

pub loop-number-preserved : goal.loop-number-preserved
loop-number-preserved c = record {
  some = omega arith;
  none = λ n first low. grind (arith, cases_eq n c.loop-number.number, c.loop-number.invariant.none n);
}

pub returns : goal.returns
returns c = (λ on. absurd (false≢true on), λ (n, (k, is)). grind (arith, c.loop-number.invariant.none n))
