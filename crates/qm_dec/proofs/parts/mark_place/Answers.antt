use Rattle.std.proofs.{Common.length, Common.arith, Common.sym, lemmas.List.Sums.position_or_len_is}
use Rattle.def_text.specs.Decimal.{is_mark}

pub returns-clause-exact : Rattle.qm_dec.proofs.parts.mark_place.Goals.returns-clause-exact
returns-clause-exact c = sym (position_or_len_is is_mark c.args.body.now (length c.args.body.now) 0 (omega arith)
    (λ k l. c.loop-i.invariant k (omega arith)) (λ l. absurd (omega arith)))
