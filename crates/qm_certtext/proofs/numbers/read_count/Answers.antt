use Rattle.std.proofs.Common.{rules}
use Rattle.qm_certtext.proofs.Counts.{no_count, no_lead}
use Rattle.qm_certtext.proofs.numbers.read_count.Goals as goal

pub returns-then-has_leading_zero : goal.returns-then-has_leading_zero
returns-then-has_leading_zero c n low is = search (rules, no_lead)

pub returns-in_default : goal.returns-in_default
returns-in_default c n low is = search (rules, no_count)

pub returns-in_default-2 : goal.returns-in_default-2
returns-in_default-2 c n low is = cc (no_count _ _ n _ c.requires low is c.in_default.ensures)
