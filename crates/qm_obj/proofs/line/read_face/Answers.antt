use Rattle.qm_obj.proofs.WordLemmas.{face_read, fewer_left, read_bad, read_more, words_short}
use Rattle.std.proofs.{lemmas.Bool.Decides.nat_tests, Common.rules, Common.arith, Common.sym, Common.◌∙◌}
use Rattle.qm_obj.proofs.line.read_face.Goals as goal

pub words-smaller : goal.words-smaller
words-smaller c = fewer_left _ _ c.next_word.ensures.first c.is_empty.ensures c.if-is_empty.false

pub overflow_add-count : goal.overflow_add-count
overflow_add-count c = search (rules, words_short)

pub words-preserved : goal.words-preserved
words-preserved c = grind (arith, read_more c.words.invariant)

pub returns-in_default : goal.returns-in_default
returns-in_default c =
    let bad = read_bad c.words.invariant _ _ c.next_word.ensures.first c.is_empty.ensures c.if-is_empty.false
    (sym c.read_corner.ensures ∙ c.in_default.is) in grind (arith, nat_tests, bad)

pub returns-then-count-ne4 : goal.returns-then-count-ne4
returns-then-count-ne4 c =
    let said = face_read c.args.line c.args.vertices c.args.faces (omega arith) c.words.invariant _ _
    c.next_word.ensures.first c.is_empty.ensures c.if-is_empty.true in grind (arith, nat_tests, said)

pub returns-then-names_none : goal.returns-then-names_none
returns-then-names_none c =
    let said = face_read c.args.line c.args.vertices c.args.faces (omega arith) c.words.invariant _ _
    c.next_word.ensures.first c.is_empty.ensures c.if-is_empty.true in grind (arith, nat_tests, said)

pub returns : goal.returns
returns c =
    let said = face_read c.args.line c.args.vertices c.args.faces (omega arith) c.words.invariant _ _
    c.next_word.ensures.first c.is_empty.ensures c.if-is_empty.true in grind (arith, nat_tests, said)

pub overflow_cast-result : goal.overflow_cast-result
overflow_cast-result c = omega (arith, words_short c.args.text.now)
