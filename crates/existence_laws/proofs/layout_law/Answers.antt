use Rattle.existence_laws.proofs.Layouts.{layout_law}

pub returns : Rattle.existence_laws.proofs.layout_law.Goals.returns
returns c = layout_law
