use Rattle.{std.proofs.Common.refl, error_laws.proofs.Errors.handed}
use Rattle.def_certtext.specs.{CertLines.alone, CertLines.lists_of, declared.certs.Certs.TheVariants.Alone}
use Rattle.qm_check.proofs.Kept.{checkable, checked_there, passed_none, unused_last, unused_there}
use Rattle.qm_check.proofs.certificates.check_only.Goals as goal

pub check_lengths-requires : goal.check_lengths-requires
check_lengths-requires c = record { cert = checkable c.requires.cert.of_layout c.requires.cert.reach }

pub returns-in_err-numbering-clause-unused : goal.returns-in_err-numbering-clause-unused
returns-in_err-numbering-clause-unused c wish for = handed _ _ _ c.from_residual.ensures.1 (unused_there
    (passed_none for) (alone (lists_of c.args.cert)) c.args.cert c.in_err-numbering.field-0.0 refl
    c.in_err-numbering.ensures.refused)

pub returns-in-Whole-clause-checked : goal.returns-in-Whole-clause-checked
returns-in-Whole-clause-checked c wish for = checked_there (passed_none for) c.args.terms.rising
    (alone (lists_of c.args.cert)) c.args.cert (Alone c.args.cert) refl c.requires.cert.reach refl
    c.in_ok-numbering.ensures.solved (rw c.in-Whole.is at c.in_ok-numbering.ensures.gives)

pub returns-in-Doubled-clause-unused : goal.returns-in-Doubled-clause-unused
returns-in-Doubled-clause-unused c wish for = unused_last (passed_none for) c.args.cert c.in_ok-numbering.ensures.solved
    (rw c.in-Doubled.is at c.in_ok-numbering.ensures.gives)
