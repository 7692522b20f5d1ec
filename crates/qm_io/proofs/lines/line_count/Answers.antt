use Rattle.std.proofs.lemmas.Grind.{common_steps}
use Rattle.std.proofs.Common.{arith}
use Rattle.std.proofs.{Common.rules, Common.length, Common.sym, Common.ap, Common.◌∙◌, lemmas.List.length-map}
use Rattle.def_io.specs.Lines.{pieces, line_of}
use Rattle.qm_io.proofs.Cuts.{length-pieces, length-ends_from}
use Rattle.qm_io.proofs.lines.line_count.Goals as goal

pub overflow_cast-result : goal.overflow_cast-result
overflow_cast-result c = search (rules, length-ends_from, length-pieces)

pub returns : goal.returns
returns c = grind (arith, common_steps, length-ends_from, pieces)
