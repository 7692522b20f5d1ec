use Rattle.std.proofs.Common.{rules, ◌+◌, ◌-◌, ◌++◌, length, length-append, arith}
use Rattle.std.proofs.lemmas.Bool.{le-ltb, lt-ltb}
use Rattle.qm_dec.proofs.Digits.{digits_both, cut_is, cut_zero}
use Rattle.qm_dec.proofs.size.round_at.Goals as goal

pub returns-then-last-count : goal.returns-then-last-count
returns-then-last-count c = search (rules, cut_zero, digits_both, length-append)

pub returns-then-digit_at-lt53 : goal.returns-then-digit_at-lt53
returns-then-digit_at-lt53 c = cut_is (c.args.whole.now ++ c.args.fraction.now) _ _ _ _ _ (search (rules, digits_both))
    c.requires.some (omega (arith, length-append c.args.whole.now c.args.fraction.now)) c.first_digits-value.ensures
    c.digit_at.ensures (rw (lt-ltb _ _ c.if-digit_at-lt53.true) (omega (arith, c.first_digits-value.ensures)))

pub returns-else-digit_at-lt53 : goal.returns-else-digit_at-lt53
returns-else-digit_at-lt53 c = cut_is _ (length c.args.whole.now + length c.args.fraction.now - c.args.last) _ _ _ _
    (search (rules, digits_both)) c.requires.some (omega (arith, length-append c.args.whole.now c.args.fraction.now))
    c.first_digits-value.ensures c.digit_at.ensures (rw (le-ltb _ _ c.if-digit_at-lt53.false) c.min.ensures)
