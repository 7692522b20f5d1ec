use Rattle.std.proofs.Common.{ap, length, sym, take, ◌++◌, ◌-◌, ◌∙◌, arith}
use Rattle.std.proofs.Math.Seq.{take-append-add}
use Rattle.{def_text.specs.Digits.number_written, qm_dec.specs.Sizes.clamped, qm_dec.proofs.Digits.two_parts}

pub returns : Rattle.qm_dec.proofs.size.first_digits.Goals.returns
returns c = two_parts c.args.whole.now _ c.number_after-2.result _ c.number_after-2.ensures c.number_after-3.ensures
    ∙ ap (λ ds. clamped (number_written ds)) (sym (ap (λ n. take n (c.args.whole.now ++ c.args.fraction.now))
    (omega arith) ∙ take-append-add c.args.whole.now c.args.fraction.now (c.args.kept - length c.args.whole.now)))
