use Rattle.std.proofs.lemmas.Grind.{common_steps}
use Rattle.std.proofs.{Common.◌+◌, Common.◌*◌, Common.arith, Common.sym, Common.◌∙◌, Common.ap}
use Rattle.std.proofs.{lemmas.List.Folds.list_all_more, lemmas.Bool.and_from}
use Rattle.{std.specs.Char.is_ascii_digit, qm_dec.proofs.Digits.after_more}

pub loop-i-preserved : Rattle.qm_dec.proofs.plain.add_digits.Goals.loop-i-preserved
loop-i-preserved c = grind (arith, common_steps, list_all_more, and_from, after_more)
