-- What one line says, where it is not refused.
use Rattle.std.proofs.Common.{rules, ◌≡◌, ℕ, ◌+◌, ◌^◌, ◌≤◌, Bool, true, false, cond, not, ◌&&◌, List, [], ◌∷◌, length}
use Rattle.std.proofs.Common.{take, map, refl, ap, ◌∙◌, arith, ltb, leb, eqb, ◌++◌, Some, None, inl, inr}
use Rattle.std.proofs.lemmas.Bool.{and_from, or_parts, and_parts, cases_Bool}
use Rattle.std.proofs.{lemmas.List.length-map, lemmas.List.length-append, lemmas.Bool.Decides.nat_tests}
use Rattle.std.proofs.{lemmas.List.Folds.list_all-append, lemmas.List.Sums.sum_by_push}
use Rattle.std.specs.List.{list_all, list_any, count_by, flat_map}
use Rattle.def_text.specs.Reading.{begins_with, face_reading, is_face_line, is_letter, is_position_count}
use Rattle.def_text.specs.Reading.{is_vertex_line, reading, vertex_reading, words_reading}
use Rattle.def_text.specs.Text.{face_in, position_in, refusal_in, faces, late_in, positions, readings}
use Rattle.def_text.specs.declared.reading.Reading.TheVariants.{Passed, Position, Face, Refused}
use Rattle.def_text.specs.declared.refusal.ObjFail.TheVariants.{Limit, NotQuad, Range, Syntax}
use Rattle.def_text.specs.{Corner.is_out, Corner.resolved, Corner.used_index, Decimal.is_far, Decimal.rounded}
use Rattle.def_text.specs.{Laws.is_position, Laws.is_quad, Logical.Logical, Types.Words, Words.words}
use Rattle.def_text.specs.{declared.reading.Reading.Reading, declared.refusal.ObjFail.ObjFail}
use Rattle.{qm_obj.specs.Kept.are_numbers, qm_obj.proofs.TailLemmas.parts_none, qm_obj.proofs.SoupLemmas.none_late}
use Rattle.def_text.specs.declared.refusal.Which.TheVariants as limits

-- What a line says that is not refused, behind so many `v` and `f` lines: its position can be written, its face is a
-- quad of positive numbers, and there are no more of either than the limits.
pub record IsSaid (vertices faces : ℕ) (line : Logical) (said : Reading) : Type 0 where
  pub vertex : length (position_in said) ≡ cond (is_vertex_line line) 1 0
  pub face : length (face_in said) ≡ cond (is_face_line line) 1 0
  pub few : (vertices ≤ 2 ^ 21 → vertices + length (position_in said) ≤ 2 ^ 21)
      × (faces ≤ 2 ^ 20 → faces + length (face_in said) ≤ 2 ^ 20)
  pub fine : (list_all is_position (position_in said) ≡ true) × (list_all is_quad (face_in said) ≡ true)
      × (list_all (list_all (λ corner. ltb 0 corner)) (face_in said) ≡ true)

positive_all : (vertices : ℕ) (ws : Words) → list_any (λ w. is_out vertices (used_index w)) ws ≡ false
    → list_all (λ corner. ltb 0 corner) (map (λ w. resolved vertices (used_index w)) ws) ≡ true
positive_all vertices [] inside = refl
positive_all vertices (w ∷ ws) inside =
    let parts = or_parts (is_out vertices (used_index w)) (list_any (λ w. is_out vertices (used_index w)) ws) inside in
    and_from _ _ (grind (arith, nat_tests)) (positive_all vertices ws parts.1)

module _ (vertices faces : ℕ) (line : Logical) where
  said_passed : is_vertex_line line ≡ false → is_face_line line ≡ false → IsSaid vertices faces line Passed
  said_passed no_vertex no_face = search rules

  said_refused : (fail : ObjFail) → refusal_in (Refused fail) ≡ [] → IsSaid vertices faces line (Refused fail)
  said_refused fail none = cc none

  abbrev Says : Reading → Type 0
  Says said = refusal_in said ≡ [] → IsSaid vertices faces line said

  by_vertex : (ws : Words) (many count numbers far : Bool) → leb (2 ^ 21) vertices ≡ many
      → is_position_count (length ws) ≡ count
      → list_any (λ word. is_far (rounded word)) (take 3 ws) ≡ far → is_vertex_line line ≡ true
      → is_face_line line ≡ false → Says (cond many (Refused (Limit limits.Vertices line.number))
      (cond (not (count && numbers)) (Refused (Syntax line.number))
      (cond far (Refused (Range line.number)) (Position (map rounded (take 3 ws))))))
  by_vertex ws many count numbers far h1 h2 h3 h4 h5 = search (rules, or_parts)

  by_face : (ws : Words) (many words_fit four out : Bool) → leb (2 ^ 20) faces ≡ many → eqb (length ws) 4 ≡ four
      → list_any (λ word. is_out vertices (used_index word)) ws ≡ out → is_vertex_line line ≡ false
      → is_face_line line ≡ true
      → Says (cond many (Refused (Limit limits.Faces line.number)) (cond (not words_fit) (Refused (Syntax line.number))
      (cond (not four) (Refused (NotQuad line.number (length ws))) (cond out (Refused (Range line.number))
      (Face line.number (map (λ word. resolved vertices (used_index word)) ws))))))
  by_face ws false true true false m q o no_vertex face =
      let four = ap (λ n. eqb n 4) (length-map ws (λ word. resolved vertices (used_index word))) ∙ q in
      search (rules, positive_all)
  by_face ws _ _ _ _ m q o no_vertex face = said_refused _

  by_letter : (word : List ℕ) (ws : Words) (v f : Bool) → words line.text ≡ word ∷ ws → is_letter 118 word ≡ v
      → is_letter 102 word ≡ f
      → Says (cond v (vertex_reading line.number vertices ws) (cond f (face_reading line.number vertices faces ws)
      Passed))
  by_letter word ws true f are v-is f-is = by_vertex ws _ _ _ _ refl refl refl (ap (begins_with 118) are ∙ v-is)
      (ap (begins_with 102) are ∙ (search rules))
  by_letter word ws false true are v-is f-is = by_face ws _ _ _ _ refl refl refl (ap (begins_with 118) are ∙ v-is)
      (ap (begins_with 102) are ∙ f-is)
  by_letter word ws false false are v-is f-is = search rules

  by_words : (ws : Words) → words line.text ≡ ws → Says (words_reading line.number vertices faces ws)
  by_words [] are = λ _. said_passed (ap (begins_with 118) are) (ap (begins_with 102) are)
  by_words (word ∷ ws) are = by_letter word ws _ _ are refl refl

  by_size : (long : Bool) → Says (cond long (Refused (Limit limits.Line line.number))
      (words_reading line.number vertices faces (words line.text)))
  by_size true = said_refused _
  by_size false = by_words (words line.text) refl

  pub is_said : refusal_in (reading vertices faces line) ≡ [] → IsSaid vertices faces line (reading vertices faces line)
  is_said = by_size (ltb 65536 line.size)

-- What lines say behind others: positions that can be written, quads of positive numbers, and no more than the limits.
pub record AreSaid (vertices corners : ℕ) (said : List Reading) : Type 0 where
  pub few_vertices : vertices ≤ 2 ^ 21 → vertices + length (positions said) ≤ 2 ^ 21
  pub few_faces : corners ≤ 2 ^ 20 → corners + length (faces said) ≤ 2 ^ 20
  pub near : list_all is_position (positions said) ≡ true
  pub quads : list_all is_quad (faces said) ≡ true
  pub positive : list_all (list_all (λ corner. ltb 0 corner)) (faces said) ≡ true

pub are_said : (before lines : List Logical) → flat_map refusal_in (readings before lines) ≡ []
    → AreSaid (count_by is_vertex_line before) (count_by is_face_line before) (readings before lines)
are_said before [] none = record {
  few_vertices = λ few. omega arith;
  few_faces = λ few. omega arith;
  near = refl;
  quads = refl;
  positive = refl;
}
are_said before (line ∷ lines) none =
    let vs = count_by is_vertex_line before in
    let fs = count_by is_face_line before in
    let said = reading vs fs line in
    let more = readings (before ++ line ∷ []) lines in
    let nones = parts_none (refusal_in said) (flat_map refusal_in more) none in
    let one = is_said vs fs line nones.0 in
    search (rules, sum_by_push, length-append, list_all-append, are_said (before ++ line ∷ []) lines nones.1)

-- Positive corners, none of which is late, are numbers of positions.
pub are_known : (n : ℕ) (said : List Reading) → flat_map (late_in n) said ≡ []
    → list_all (list_all (λ corner. ltb 0 corner)) (faces said) ≡ true → list_all (are_numbers n) (faces said) ≡ true
are_known n [] none positive = refl
are_known n (Face line corners ∷ said) none positive =
    let parts = and_parts (list_all (λ corner. ltb 0 corner) corners)
    (list_all (list_all (λ corner. ltb 0 corner)) (faces said)) positive in
    elim (cases_Bool (list_any (λ corner. ltb n corner) corners)) [
      | inl on ↦ cc (rw on at none)
      | inr off ↦
          let one = and_parts (are_numbers n corners) true (none_late n (corners ∷ []) (line ∷ []) refl
          (and_from _ _ parts.0 refl) (ap (λ t. cond t (Some line) None) off)) in
          and_from _ _ one.0 (are_known n said (rw off at none) parts.1)
    ]
are_known n (_ ∷ said) none positive = are_known n said none positive
