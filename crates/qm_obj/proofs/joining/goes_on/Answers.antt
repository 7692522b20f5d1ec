use Rattle.std.proofs.Common.{arith}
use Rattle.qm_obj.proofs.JoinLemmas.{no_hash}

pub returns-then-last-eq-BACKSLASH : Rattle.qm_obj.proofs.joining.goes_on.Goals.returns-then-last-eq-BACKSLASH
returns-then-last-eq-BACKSLASH c = grind (arith, no_hash c.args.line.now)
