use Rattle.std.proofs.{Common.map, Common.string_bytes, Common.sym, Common.◌∙◌, lemmas.Bool.true≢false}
use Rattle.{error_laws.proofs.Errors.handed, qm_words.proofs.Unique.same_asked}
use Rattle.qm_words.proofs.values.fixed_settings_of.Goals as goal

pub returns-in_err-asked-clause-refuses : goal.returns-in_err-asked-clause-refuses
returns-in_err-asked-clause-refuses c = handed _ _ c.in_err-asked.field-0.0 c.from_residual.ensures.1
    (λ usage settings has. c.in_err-asked.ensures.refuses usage settings _ has)

pub returns-then-asked-clause-refuses : goal.returns-then-asked-clause-refuses
returns-then-asked-clause-refuses c usage settings has =
    let words = map string_bytes c.args.words.now in
    let asked = c.in_ok-asked.asked in
    let both = same_asked words asked.settings settings asked.auto _ c.in_ok-asked.ensures.reads has in
    let is = c.if-asked.true in
    true≢false (sym is ∙ both.1)
