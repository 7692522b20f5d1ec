use Rattle.std.proofs.{Common.rules, Common.arith, Common.sym, lemmas.Bool.eqb-true, lemmas.Option.IfSome_then}
use Rattle.qm_dec.proofs.FewDigits.{IsPrefix, prefix_is, prefix_small, pointed_size, whole_size}
use Rattle.qm_dec.proofs.{Digits.some_from, plain.plain_size.Goals.After-add_digits-whole}
use Rattle.qm_dec.proofs.plain.plain_size.Goals as goal

-- What the digits say with which the body begins.
whole : (c : After-add_digits-whole) → IsPrefix c.unsigned-body.result.now c.add_digits-whole.result.1
    c.add_digits-whole.result.0
whole c = search (rules, prefix_is)

pub overflow_mul-result : goal.overflow_mul-result
overflow_mul-result c = omega (arith, prefix_small (whole (goal.at.overflow_mul-result c).After-add_digits-whole))

pub with_fraction-requires : goal.with_fraction-requires
with_fraction-requires c = prefix_small (whole (goal.at.with_fraction-requires c).After-add_digits-whole)

pub returns-then-is_empty : goal.returns-then-is_empty
returns-then-is_empty c = whole_size c.args.word.now c.requires c.unsigned-body.ensures
    (whole (goal.at.returns-then-is_empty c).After-add_digits-whole) c.if-count-eq0.false c.split_at.ensures.back
    (eqb-true _ _ (sym c.if-is_empty.ensures))

pub returns : goal.returns
returns c = IfSome_then _ c.with_fraction.ensures (λ size good. pointed_size _ size c.requires c.unsigned-body.ensures
    (whole (goal.at.returns c).After-add_digits-whole) c.if-count-eq0.false c.split_at.ensures.back
    (some_from c.split_at.result.1.now c.if-is_empty.ensures) c.if-rest-ne-POINT.false c.behind_first.ensures good)
