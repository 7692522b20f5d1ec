use Rattle.cut_laws.proofs.Rows.{grid_law}

pub returns : Rattle.cut_laws.proofs.grid_law.Goals.returns
returns c = grid_law
