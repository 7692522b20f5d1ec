use Rattle.qm_layoutnet.proofs.Balance.{one_net_law}

pub returns : Rattle.qm_layoutnet.proofs.law.one_net_law.Goals.returns
returns c = one_net_law
