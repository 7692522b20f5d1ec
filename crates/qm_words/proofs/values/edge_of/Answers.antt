use Rattle.std.proofs.Common.{arith, refl}
use Rattle.qm_words.proofs.Plain.{no_line, edge_plain, number_plain}
use Rattle.error_laws.proofs.Errors.{handed}
use Rattle.qm_words.proofs.values.edge_of.Goals as goal

pub returns-in_err-matches-clause-refuses : goal.returns-in_err-matches-clause-refuses
returns-in_err-matches-clause-refuses c = handed _ _ c.in_err-matches.field-0.0 c.from_residual.ensures.1
    (λ usage edge floor has. no_line (c.in_err-matches.ensures.refuses usage) has.options
    (rw (has.least.written, edge_plain _ edge has.length, number_plain floor (omega (arith, has.least.high))) refl))
