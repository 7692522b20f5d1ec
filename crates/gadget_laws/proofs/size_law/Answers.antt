use Rattle.gadget_laws.proofs.Size.{size_law}

pub returns : Rattle.gadget_laws.proofs.size_law.Goals.returns
returns c = size_law
