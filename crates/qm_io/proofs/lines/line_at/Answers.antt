use Rattle.std.proofs.lemmas.Grind.{common_steps}
use Rattle.std.proofs.Common.{arith}
use Rattle.qm_io.proofs.Cuts.{line-piece, piece-there}
use Rattle.{std.proofs.Common.ap, std.proofs.Common.◌∙◌, def_io.specs.Lines.line_of, def_io.specs.Lines.pieces}

pub returns : Rattle.qm_io.proofs.lines.line_at.Goals.returns
returns c = grind (arith, common_steps, line-piece, pieces, piece-there)
