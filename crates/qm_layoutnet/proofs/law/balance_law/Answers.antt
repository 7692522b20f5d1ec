use Rattle.qm_layoutnet.proofs.Balance.{balance_law}

pub returns : Rattle.qm_layoutnet.proofs.law.balance_law.Goals.returns
returns c = balance_law
