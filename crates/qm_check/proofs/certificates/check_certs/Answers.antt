use Rattle.qm_check.proofs.certificates.check_certs.Goals as goal

pub returns-in-Alone-clause-unused : goal.returns-in-Alone-clause-unused
returns-in-Alone-clause-unused c wish for = rw c.in-Alone.is (c.check_only.ensures.unused wish for)

pub returns-in-Raised-clause-unused : goal.returns-in-Raised-clause-unused
returns-in-Raised-clause-unused c wish for = rw c.in-Raised.is (c.check_both.ensures.unused wish for)

pub returns-in-Risen-clause-unused : goal.returns-in-Risen-clause-unused
returns-in-Risen-clause-unused c wish for = rw c.in-Risen.is (c.check_rounds.ensures.unused wish for)
