use Rattle.qm_words.proofs.Plain.{no_line, keep_plain, patches_plain, aim_plain, floor_plain, weight_plain}
use Rattle.{std.proofs.Common.refl, qm_words.proofs.Plain.spacing_plain, error_laws.proofs.Errors.handed}
use Rattle.qm_words.proofs.values.fit_of.Goals as goal

pub returns-in_err-matches-clause-refuses : goal.returns-in_err-matches-clause-refuses
returns-in_err-matches-clause-refuses c = handed _ _ c.in_err-matches.field-0.0 c.from_residual.ensures.1
    (λ usage fit has. no_line (c.in_err-matches.ensures.refuses usage) has.options
    (rw (has.values.kept, has.values.cut, has.values.bounded, has.values.weighed, has.values.spaced)
    (rw (keep_plain fit.keep, patches_plain fit.patches, aim_plain _ fit.aim has.values.aimed, weight_plain fit.weight)
    (rw (floor_plain fit.floor fit.auto has.values.in_range.floor, spacing_plain fit.spacing) refl))))
