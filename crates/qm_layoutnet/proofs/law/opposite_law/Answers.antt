use Rattle.qm_layoutnet.proofs.Built.{opposite_law}

pub returns : Rattle.qm_layoutnet.proofs.law.opposite_law.Goals.returns
returns c = opposite_law
