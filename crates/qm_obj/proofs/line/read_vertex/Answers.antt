use Rattle.qm_obj.proofs.WordLemmas.{vertex_read, fewer_left, read_bad, read_more, words_short}
use Rattle.std.proofs.{lemmas.Bool.Decides.nat_tests, Common.rules, Common.arith, Common.sym, Common.◌∙◌}
use Rattle.qm_obj.proofs.line.read_vertex.Goals as goal

pub words-smaller : goal.words-smaller
words-smaller c = fewer_left _ _ c.next_word.ensures.first c.is_empty.ensures c.if-is_empty.false

pub overflow_add-count : goal.overflow_add-count
overflow_add-count c = search (rules, words_short)

pub words-preserved : goal.words-preserved
words-preserved c = grind (arith, read_more c.words.invariant)

pub returns-in_default : goal.returns-in_default
returns-in_default c =
    let bad = read_bad c.words.invariant _ _ c.next_word.ensures.first c.is_empty.ensures c.if-is_empty.false
    (sym c.read_coordinate.ensures ∙ c.in_default.is) in grind (arith, nat_tests, bad)

pub returns-then-not-is_right_count : goal.returns-then-not-is_right_count
returns-then-not-is_right_count c =
    let said = vertex_read c.args.line c.args.vertices (omega arith) c.words.invariant _ _
    c.next_word.ensures.first c.is_empty.ensures c.if-is_empty.true in grind (arith, nat_tests, said)

pub returns-in-Some-read_position : goal.returns-in-Some-read_position
returns-in-Some-read_position c =
    let said = vertex_read c.args.line c.args.vertices (omega arith) c.words.invariant _ _
    c.next_word.ensures.first c.is_empty.ensures c.if-is_empty.true in grind (arith, nat_tests, said)

pub returns-in-None : goal.returns-in-None
returns-in-None c =
    let said = vertex_read c.args.line c.args.vertices (omega arith) c.words.invariant _ _
    c.next_word.ensures.first c.is_empty.ensures c.if-is_empty.true in grind (arith, nat_tests, said)
