use Rattle.std.proofs.Common.{rules}
use Rattle.qm_certtext.proofs.Cutting.{no_floor, not_stripped, stripped}
use Rattle.qm_certtext.proofs.head.cut_head.Goals as goal

pub returns-in_default : goal.returns-in_default
returns-in_default c scale floor weight cut = search (rules, not_stripped)

pub returns-in-Some-cut_word-2 : goal.returns-in-Some-cut_word-2
returns-in-Some-cut_word-2 c = search (rules, stripped)

pub returns-in-None : goal.returns-in-None
returns-in-None c = let first = c.in-Some-cut_word.ensures in
    no_floor (stripped _ _ _ c.in-Some.ensures.cases.0 c.in-Some.ensures.cases.1) _ _ first.0 first.1 c.in-None.ensures
