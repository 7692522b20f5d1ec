use Rattle.std.proofs.{Common.sym, Common.◌∙◌, lemmas.Bool.true≢false}
use Rattle.qm_certtext.proofs.Texts.{same_asked}
use Rattle.qm_headline.proofs.mark.read_fixed.Goals as goal

pub returns-in_default : goal.returns-in_default
returns-in_default c settings range is = c.in_default.ensures settings _ range is

pub returns-then-asked : goal.returns-then-asked
returns-then-asked c settings range is =
    let asked = c.in-Some.asked in
    let both = same_asked c.args.prefix.now c.args.line.now asked.settings settings asked.auto _ c.in-Some.ensures.0
    c.in-Some.ensures.1 range is in
    let chosen = c.if-asked.true in
    true≢false (sym chosen ∙ both.1)
