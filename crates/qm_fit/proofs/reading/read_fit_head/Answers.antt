use Rattle.std.proofs.{Common.ap, Common.sym, Common.◌∙◌, lemmas.Bool.true≢false}
use Rattle.def_fit.specs.FitWords.{aim_text}
use Rattle.qm_fit.proofs.Heads.{line_cut, words_of, same_aim}
use Rattle.qm_fit.proofs.reading.read_fit_head.Goals as goal

pub returns-in_default : goal.returns-in_default
returns-in_default c fit is head = c.in_default.ensures _ _ _ _ _ _ (line_cut c.args.line.now fit is head)

pub returns-in_default-read_fit : goal.returns-in_default-read_fit
returns-in_default-read_fit c fit is head =
    c.in_default-read_fit.ensures fit (words_of c.args.line.now _ _ _ _ _ _ c.in-Some.ensures fit is head).0

pub returns-else-is_aim_text : goal.returns-else-is_aim_text
returns-else-is_aim_text c fit is head =
    let read = c.in-Some-read_fit in
    let told = words_of c.args.line.now _ _ _ _ _ _ c.in-Some.ensures fit is head in
    let same = same_aim _ fit.aim read.fit.aim is.aim told.0.aimed read.ensures.in_range.aim read.ensures.aimed in
    true≢false (sym (c.is_aim_text.ensures.1 (told.1 ∙ ap aim_text same)) ∙ c.if-is_aim_text.false)
