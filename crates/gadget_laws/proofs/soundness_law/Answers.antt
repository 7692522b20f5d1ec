use Rattle.gadget_laws.proofs.Arcs.{sound}

pub returns : Rattle.gadget_laws.proofs.soundness_law.Goals.returns
returns c = sound
