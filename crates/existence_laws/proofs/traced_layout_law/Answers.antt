use Rattle.existence_laws.proofs.Layouts.{traced_layout_law}

pub returns : Rattle.existence_laws.proofs.traced_layout_law.Goals.returns
returns c = traced_layout_law
