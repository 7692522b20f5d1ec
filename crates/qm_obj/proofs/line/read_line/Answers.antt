use Rattle.std.proofs.Common.{arith, false, ltb, refl, sym, true, ◌∙◌, ◌≡◌}
use Rattle.{std.proofs.lemmas.Bool.le-ltb, def_text.specs.Reading.is_letter, qm_obj.proofs.WordLemmas.by_first_word}

pub returns-then-is_one : Rattle.qm_obj.proofs.line.read_line.Goals.returns-then-is_one
returns-then-is_one c =
    let fits : ltb 65536 c.args.size ≡ false = le-ltb _ _ (omega arith) in
    let vertex : is_letter 118 c.next_word.result.0.now ≡ true = sym c.is_one.ensures ∙ c.if-is_one.true in
    c.read_vertex.ensures ∙ sym (rw fits (by_first_word _ _ _ _ _ _ c.next_word.ensures.first ∙ rw vertex refl))
