use Rattle.std.proofs.{Common.arith, Common.sym, lemmas.List.Sums.position_or_len_is}

pub returns-clause-exact : Rattle.qm_obj.proofs.words.word_end.Goals.returns-clause-exact
returns-clause-exact c = sym (position_or_len_is _ c.args.text.now _ 0 (omega arith)
    (λ k l. c.loop-i.invariant k (omega arith)) (λ l. absurd (omega arith)))
