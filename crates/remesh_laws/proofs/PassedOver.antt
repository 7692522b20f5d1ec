-- Lines that a reader of meshes passes over, before and behind the lines of a mesh, change nothing that is read.
use Rattle.std.proofs.Common.{rules, ◌≡◌, ◌<◌, ◌+◌, ℕ, zero, suc, Bool, true, false, cond, if◌then◌else◌, List, [], ◌∷◌}
use Rattle.std.proofs.Common.{◌++◌, length, get_or, Ok, refl, ◌∙◌, ap, ap₂, arith}
use Rattle.std.proofs.{lemmas.List.Concat.flat_map-append, lemmas.List.Sums.sum_by_push}
use Rattle.def_text.specs.Logical.{continues, groups_of, joined, logical, logical_lines, numbered_groups}
use Rattle.def_text.specs.{Logical.Logical, declared.reading.Reading.Reading, declared.refusal.ObjFail.ObjFail}
use Rattle.def_text.specs.Reading.{is_face_line, is_letter, is_vertex_line, reading, words_reading}
use Rattle.def_text.specs.Text.{face_in, face_set, faces, first_refusal, late_in, position_in, positions, readings}
use Rattle.def_text.specs.Text.{refusal_in, refusals, soup_of, text_soup}
use Rattle.{std.specs.List.count_by, std.specs.List.flat_map, def_io.specs.Bytes.Bytes, def_io.specs.Bytes.Lines}
use Rattle.{qm_obj.proofs.TailLemmas.parts_none, remesh_laws.proofs.Asides.ArePassed}
use Rattle.remesh_laws.specs.Asides.{IsPassedOver}
use Rattle.def_text.specs.declared.reading.Reading.TheVariants.{Face as Said, Passed, Refused}
use Rattle.def_text.specs.{Decimal.rounded, FaceSet.FaceSet, Types.Position as Place, Types.Words, Words.words}

-- ---- One line under two numbers.

-- What a line says under another number: the same, but for the number.
record IsAlike (said other : Reading) : Type 0 where
  position : position_in other ≡ position_in said
  face : face_in other ≡ face_in said
  refusal : refusal_in said ≡ [] → refusal_in other ≡ []
  late : (vertices : ℕ) → late_in vertices said ≡ [] → late_in vertices other ≡ []

refused : (one two : ObjFail) → IsAlike (Refused one) (Refused two)
refused one two = record { position = refl; face = refl; refusal = λ none. cc none; late = λ v none. refl }

alike_self : (r : Reading) → IsAlike r r
alike_self r = record { position = refl; face = refl; refusal = λ none. none; late = λ v none. none }

alike_if : (t : Bool) {a b c d : Reading} → IsAlike a b → IsAlike c d
    → IsAlike (if t then a else c) (if t then b else d)
alike_if true one other = one
alike_if false one other = other

module _ (m n vertices many : ℕ) where
  words_alike : (ws : Words) → IsAlike (words_reading m vertices many ws) (words_reading n vertices many ws)
  words_alike [] = alike_self Passed
  words_alike (w ∷ ws) = alike_if (is_letter 118 w) (search (rules, alike_if, refused))
      (alike_if (is_letter 102 w) (search rules) (alike_self Passed))

-- ---- Lines under other numbers.

-- As many lines of vertices and of faces.
record SameCounts (before after : List Logical) : Type 0 where
  vertices : count_by is_vertex_line before ≡ count_by is_vertex_line after
  faces : count_by is_face_line before ≡ count_by is_face_line after

-- What a line says behind others.
abbrev said_by : (before : List Logical) (line : Logical) → Reading
said_by before line = reading (count_by is_vertex_line before) (count_by is_face_line before) line

one_more : (p : Logical → Bool) (before : List Logical) (line : Logical) → count_by p (before ++ line ∷ [])
    ≡ count_by p before + cond (p line) 1 0
one_more p before line = sum_by_push (λ l. cond (p l) 1 0) before line

none_more : (p : Logical → Bool) (before : List Logical) (line : Logical) → p line ≡ false
    → count_by p before ≡ count_by p (before ++ line ∷ [])
none_more p before line off = omega (arith, one_more p before line, ap (λ (t : Bool). cond {A = ℕ} t 1 0) off)

record AreAlike (said other : List Reading) : Type 0 where
  positions : flat_map position_in other ≡ flat_map position_in said
  faces : flat_map face_in other ≡ flat_map face_in said
  refusals : flat_map refusal_in said ≡ [] → flat_map refusal_in other ≡ []
  late : (vertices : ℕ) → flat_map (late_in vertices) said ≡ [] → flat_map (late_in vertices) other ≡ []

both_none : {X : Type 0} (f : Reading → List X) (said other : Reading) (rest others : List Reading)
    → (f said ≡ [] → f other ≡ [])
    → (flat_map f rest ≡ [] → flat_map f others ≡ []) → flat_map f (said ∷ rest) ≡ [] → flat_map f (other ∷ others) ≡ []
both_none f said other rest others first more none = search (rules, parts_none)

alike : (before after : List Logical) (m n : ℕ) (groups : List Lines) → SameCounts before after
    → AreAlike (readings before (numbered_groups m groups)) (readings after (numbered_groups n groups))
alike before after m n [] same =
    record { positions = refl; faces = refl; refusals = λ none. none; late = λ v none. none }
alike before after m n (group ∷ groups) same = with_rest first (alike (before ++ logical m group ∷ []) (after ++ logical
    n group ∷ []) (m + length group) (n + length group) groups (search (rules, one_more)))
  where
    first : IsAlike (said_by before (logical m group)) (said_by after (logical n group))
    first = rw (← same.faces, ← same.vertices) (search (rules, alike_if, refused, words_alike))

    with_rest : {said other : Reading} {rest others : List Reading} → IsAlike said other → AreAlike rest others
        → AreAlike (said ∷ rest) (other ∷ others)
    with_rest {said} {other} {rest} {others} one more = record {
      positions = ap₂ ◌++◌ one.position more.positions;
      faces = ap₂ ◌++◌ one.face more.faces;
      refusals = both_none refusal_in said other rest others one.refusal more.refusals;
      late = λ v. both_none (late_in v) said other rest others (one.late v) (more.late v);
    }

-- A soup is one without refusals.
none_refused : {X : Type 0} (fails : List ObjFail) (x y : X) → first_refusal fails x ≡ Ok y → (fails ≡ []) × (x ≡ y)
none_refused [] x y is = (refl, cc is)
none_refused (fail ∷ fails) x y is = absurd (cc is)

alike_soup : (said other : List Reading) (soup : FaceSet) → AreAlike said other → soup_of said ≡ Ok soup
    → soup_of other ≡ Ok soup
alike_soup said other soup are is =
    let kept = none_refused (refusals said) (face_set (positions said) (faces said)) soup is in
    let parts = parts_none (flat_map refusal_in said) (flat_map (late_in (length (positions said))) said) kept.0 in
    let early = are.refusals parts.0 in
    let late : flat_map (late_in (length (positions other))) other ≡ [] = ap (λ (ps : List Place). flat_map
    (late_in (length ps)) other) are.positions ∙ are.late (length (positions said)) parts.1 in
    (λ i. first_refusal (early i ++ late i) (face_set (are.positions i) (are.faces i))) ∙ ap Ok kept.1

-- ---- Lines that are passed over.

-- A line to which none is joined is a logical line.
one_line : (n : ℕ) (line : Bytes) (lines : Lines) → continues line ≡ false
    → logical_lines n (line ∷ lines) ≡ logical n (line ∷ []) ∷ logical_lines (n + 1) lines
one_line n line lines stays = search rules

module _ (line : Bytes) (is : IsPassedOver line) (n : ℕ) where
  pub is_passed : (before : List Logical) → said_by before (logical n (line ∷ [])) ≡ Passed
  is_passed before = search rules

-- In front: a soup stays what it is.
module _ (lines : Lines) (soup : FaceSet) (said : text_soup 1 lines ≡ Ok soup) where
  behind_front : (front : Lines) (n : ℕ) (before : List Logical) → ArePassed front → SameCounts [] before
      → soup_of (readings before (logical_lines n (front ++ lines))) ≡ Ok soup
  behind_front [] n before each none = alike_soup (readings [] (logical_lines 1 lines))
      (readings before (logical_lines n lines)) soup (alike [] before 1 n (groups_of lines) none) said
  behind_front (line ∷ front) n before each none =
      let first : IsPassedOver line = each 0 (omega arith) in
      ap (λ (ls : List Logical). soup_of (readings before ls)) (one_line n line (front ++ lines) first.whole)
      ∙ (ap (λ (r : Reading). soup_of (r ∷ readings (before ++ logical n (line ∷ []) ∷ [])
      (logical_lines (n + 1) (front ++ lines)))) (is_passed line first n before) ∙ behind_front front (n + 1)
      (before ++ logical n (line ∷ []) ∷ []) (λ k l. each (suc k) (omega (arith, l))) (search (rules, none_more)))

-- Readings that say nothing.
abbrev passes : ℕ → List Reading
passes zero = []
passes (suc k) = Passed ∷ passes k

flat_passes : {X : Type 0} (f : Reading → List X) → f Passed ≡ [] → (k : ℕ) (said : List Reading)
    → flat_map f (said ++ passes k) ≡ flat_map f said
flat_passes f none k said = flat_map-append f said (passes k) ∙ (search (rules, all))
  where
    all : (k : ℕ) → flat_map f (passes k) ≡ []
    all zero = refl
    all (suc k) = ap₂ ◌++◌ none (all k)

all_passed : (behind : Lines) (n : ℕ) (before : List Logical) → ArePassed behind
    → readings before (logical_lines n behind) ≡ passes (length behind)
all_passed [] n before each = refl
all_passed (line ∷ behind) n before each =
    let first : IsPassedOver line = each 0 (omega arith) in
    rw (one_line n line behind first.whole, is_passed line first n before) (ap (λ (rs : List Reading). Passed ∷ rs)
    (all_passed behind (n + 1) (before ++ logical n (line ∷ []) ∷ []) (λ k l. each (suc k) (omega (arith, l)))))

-- Behind lines to which none is joined: they say nothing more.
said_before : (lines behind : Lines) (n : ℕ) (before : List Logical) → ((k : ℕ) → k < length lines → continues (get_or
    lines k []) ≡ false) → ArePassed behind → readings before (logical_lines n (lines ++ behind)) ≡ readings before
    (logical_lines n lines) ++ passes (length behind)
said_before [] behind n before whole each = all_passed behind n before each
said_before (line ∷ lines) behind n before whole each =
    let stays : continues line ≡ false = whole 0 (omega arith) in
    search (
      rules,
      said_before lines behind (n + 1) (before ++ logical n (line ∷ []) ∷ [])
          (λ k l. whole (suc k) (omega (arith, l))) each,
    )

-- Both.
pub passed_over : (front lines behind : Lines) (soup : FaceSet) → ArePassed front
    → ((k : ℕ) → k < length lines → continues (get_or lines k []) ≡ false)
    → ArePassed behind → text_soup 1 lines ≡ Ok soup → text_soup 1 (front ++ (lines ++ behind)) ≡ Ok soup
passed_over front lines behind soup fronts whole behinds said = search (rules, behind_front, said_before, flat_passes)
