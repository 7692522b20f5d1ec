use Rattle.std.proofs.{Common.rules, Common.length, Common.arith, Common.sym, Common.eqb}
use Rattle.std.proofs.lemmas.List.Sums.{position_or_len_is}
use Rattle.qm_scan.proofs.bytes.find_byte.Goals as goal

pub returns-then-byte-wanted-clause-exact : goal.returns-then-byte-wanted-clause-exact
returns-then-byte-wanted-clause-exact c = search (rules, position_or_len_is)

pub returns-clause-exact : goal.returns-clause-exact
returns-clause-exact c = sym (position_or_len_is (λ b. eqb b c.args.wanted) c.args.text.now (length c.args.text.now) 0
    (omega arith) (λ k l. c.loop-i.invariant k (omega arith)) (λ l. absurd (omega arith)))
