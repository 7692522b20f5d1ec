use Rattle.{std.proofs.Common.refl, error_laws.proofs.Errors.handed}
use Rattle.def_certtext.specs.{CertLines.lists_of, CertLines.raised, declared.certs.Certs.TheVariants.Alone}
use Rattle.qm_check.proofs.Kept.{checkable, checked_there, doubling_of, passed_none, unused_there}
use Rattle.qm_check.proofs.certificates.check_both.Goals as goal

pub check_lengths-requires : goal.check_lengths-requires
check_lengths-requires c = record { cert = checkable c.requires.pair.of_layout c.requires.pair.reach.0 }

pub returns-in_err-numbering-clause-unused : goal.returns-in_err-numbering-clause-unused
returns-in_err-numbering-clause-unused c wish for =
    let told = raised (lists_of c.args.pair.first) (lists_of c.args.pair.third) in
    handed _ _ _ c.from_residual.ensures.1 (unused_there (passed_none for) told c.args.pair.first
    c.in_err-numbering.field-0.0 refl c.in_err-numbering.ensures.refused)

pub check_third-requires-clause-doubling : goal.check_third-requires-clause-doubling
check_third-requires-clause-doubling c wish for = doubling_of c.args.pair.first for c.in_ok-numbering.ensures.solved
    (rw c.in-Doubled.is at c.in_ok-numbering.ensures.gives)

pub returns-in-Whole-clause-checked : goal.returns-in-Whole-clause-checked
returns-in-Whole-clause-checked c wish for = checked_there (passed_none for) c.args.terms.rising
    (raised (lists_of c.args.pair.first) (lists_of c.args.pair.third)) c.args.pair.first (Alone c.args.pair.first) refl
    c.requires.pair.reach refl c.in_ok-numbering.ensures.solved (rw c.in-Whole.is at c.in_ok-numbering.ensures.gives)
