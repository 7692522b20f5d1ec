use Rattle.std.proofs.{Common.rules, Common.◌+◌, Common.◌*◌, Common.arith, Common.sym, Common.◌∙◌, Common.ap}
use Rattle.std.proofs.{lemmas.List.Folds.list_all_more, lemmas.Bool.and_from}
use Rattle.{std.specs.Char.is_ascii_digit, qm_scan.proofs.Numbers.number_more, qm_scan.proofs.Numbers.taken_small}
use Rattle.qm_scan.proofs.number.read_short.Goals as goal

pub overflow_mul-n : goal.overflow_mul-n
overflow_mul-n c = search (rules, taken_small)

pub overflow_add-n : goal.overflow_add-n
overflow_add-n c = search (rules, taken_small)

pub loop-byte-preserved : goal.loop-byte-preserved
loop-byte-preserved c = record {
  digits = list_all_more is_ascii_digit c.args.word.now c.loop-byte.byte-index 0 (omega arith)
      ∙ and_from _ _ c.loop-byte.invariant.digits (sym c.is_ascii_digit.ensures.value ∙ c.if-not-is_ascii_digit.false);
  so_far = rw (number_more c.args.word.now c.loop-byte.byte-index c.loop-byte-test.true, ← c.loop-byte.invariant.so_far)
      (ap (λ d. c.loop-byte.n * 10 + d) c.from.ensures);
}
