use Rattle.std.proofs.{Common.◌-◌, Common.take, Common.get_or, Common.arith, Common.sym, Common.◌∙◌}
use Rattle.std.proofs.{lemmas.List.Folds.list_all_more, lemmas.Bool.and_from}
use Rattle.qm_scan.proofs.Numbers.{number_more, clamped_more}
use Rattle.{std.specs.Char.is_ascii_digit, def_text.specs.Digits.number_written}

pub loop-byte-preserved : Rattle.qm_scan.proofs.number.read_long.Goals.loop-byte-preserved
loop-byte-preserved c = record {
  digits = list_all_more is_ascii_digit c.args.word.now c.loop-byte.byte-index 0 (omega arith)
      ∙ and_from _ _ c.loop-byte.invariant.digits (sym c.is_ascii_digit.ensures.value ∙ c.if-not-is_ascii_digit.false);
  so_far = rw (number_more c.args.word.now c.loop-byte.byte-index c.loop-byte-test.true)
      (c.saturating_add-n.ensures ∙ rw (c.saturating_mul.ensures, c.from.ensures, c.loop-byte.invariant.so_far)
      (clamped_more (number_written (take c.loop-byte.byte-index c.args.word.now))
      (get_or c.args.word.now c.loop-byte.byte-index 0 - 48) 18446744073709551615));
}
