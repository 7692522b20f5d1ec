use Rattle.written_laws.proofs.Shape.{keeps_shape_law}

pub returns : Rattle.written_laws.proofs.keeps_shape_law.Goals.returns
returns c = keeps_shape_law
