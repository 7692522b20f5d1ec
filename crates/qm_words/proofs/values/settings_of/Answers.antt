use Rattle.std.proofs.Common.{arith, refl, ◌∷◌}
use Rattle.qm_words.proofs.Plain.{no_line, digits_plain, floor_plain, weight_plain}
use Rattle.error_laws.proofs.Errors.{handed}
use Rattle.{std.specs.Prelude.decimal, qm_dec.proofs.ReadBack.decimal_digits}
use Rattle.qm_words.proofs.values.settings_of.Goals as goal

pub returns-in_err-matches-clause-refuses : goal.returns-in_err-matches-clause-refuses
returns-in_err-matches-clause-refuses c = handed _ _ c.in_err-matches.field-0.0 c.from_residual.ensures.1
    (λ usage settings auto has. no_line (c.in_err-matches.ensures.refuses usage) has.options
    (rw (has.values.scaled, has.values.bounded, has.values.weighed, weight_plain settings.weight)
    (rw (digits_plain (decimal settings.p) (47 ∷ decimal settings.q) (decimal_digits settings.p (omega arith)) refl)
    (rw (floor_plain settings.floor auto has.values.in_range.floor) refl))))
