use Rattle.std.proofs.Common.{arith, refl}
use Rattle.qm_words.proofs.Plain.{no_line, keep_plain, patches_plain, number_plain}
use Rattle.error_laws.proofs.Errors.{handed}
use Rattle.qm_words.proofs.values.grids_of.Goals as goal

pub returns-in_err-matches-clause-refuses : goal.returns-in_err-matches-clause-refuses
returns-in_err-matches-clause-refuses c = handed _ _ c.in_err-matches.field-0.0 c.from_residual.ensures.1
    (λ usage keep patches by has. no_line (c.in_err-matches.ensures.refuses usage) has.options
    (rw (has.kept, has.cut, has.count.written, keep_plain keep, patches_plain patches)
    (rw (number_plain by (omega (arith, has.count.high))) refl)))
