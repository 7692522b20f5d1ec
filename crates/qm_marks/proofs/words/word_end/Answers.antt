use Rattle.std.proofs.{Common.arith, Common.length, Common.sym, lemmas.List.Sums.position_or_len_is}
use Rattle.def_text.specs.Words.{is_blank}

pub returns-clause-exact : Rattle.qm_marks.proofs.words.word_end.Goals.returns-clause-exact
returns-clause-exact c = sym (position_or_len_is is_blank c.args.text.now (length c.args.text.now) 0 (omega arith)
    (λ k l. c.loop-i.invariant k (omega arith)) (λ l. absurd (omega arith)))
