use Rattle.gadget_laws.proofs.Box.{graph_law}

pub returns : Rattle.gadget_laws.proofs.graph_law.Goals.returns
returns c = graph_law
