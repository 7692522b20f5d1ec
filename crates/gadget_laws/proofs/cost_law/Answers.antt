use Rattle.gadget_laws.proofs.Box.{costs}

pub returns : Rattle.gadget_laws.proofs.cost_law.Goals.returns
returns c = costs
