-- No line of a text is refused for the number of all bytes.
use Rattle.std.proofs.Common.{rules, ◌≡◌, ℕ, nat_lt, Bool, true, false, if◌then◌else◌, Result, Err, List, [], ◌∷◌, ◌++◌}
use Rattle.std.proofs.Common.{length, refl, ◌∙◌}
use Rattle.{std.proofs.lemmas.Bool.false≢true, std.proofs.lemmas.List.Folds.list_all-append, def_io.specs.Bytes.Lines}
use Rattle.std.specs.List.{flat_map, list_all}
use Rattle.def_text.specs.Reading.{face_reading, reading, vertex_reading, words_reading}
use Rattle.def_text.specs.Text.{first_refusal, late_in, positions, readings, refusal_in, refusals, text_soup}
use Rattle.def_text.specs.{FaceSet.FaceSet, Logical.Logical, Logical.logical_lines, Words.words}
use Rattle.def_text.specs.{declared.reading.Reading.Reading, declared.refusal.ObjFail.ObjFail}
use Rattle.def_text.specs.{declared.refusal.ObjFail.TheVariants.Limit, declared.refusal.Which.Which}
use Rattle.def_text.specs.{declared.refusal.Which.TheVariants.Bytes, Types.Words}

-- Another limit than the one on all bytes.
abbrev is_of_line : Which → Bool
is_of_line Bytes = false
is_of_line _ = true

-- A refusal that is not for the number of all bytes.
abbrev is_fine : ObjFail → Bool
is_fine (Limit which line) = is_of_line which
is_fine _ = true

-- A line that is refused finely, if at all.
abbrev IsFine : Reading → Type 0
IsFine r = list_all is_fine (refusal_in r) ≡ true

fine_if : (t : Bool) (a b : Reading) → IsFine a → IsFine b → IsFine (if t then a else b)
fine_if true a b x y = x
fine_if false a b x y = y

fine_vertex : (n v : ℕ) (ws : Words) → IsFine (vertex_reading n v ws)
fine_vertex n v ws = search (rules, fine_if)

fine_face : (n v f : ℕ) (ws : Words) → IsFine (face_reading n v f ws)
fine_face n v f ws = search rules

fine_words : (n v f : ℕ) (ws : Words) → IsFine (words_reading n v f ws)
fine_words n v f ws = search (rules, fine_if, fine_vertex, fine_face)

fine_reading : (v f : ℕ) (line : Logical) → IsFine (reading v f line)
fine_reading v f line = fine_if (nat_lt 65536 line.size) _ _ refl (fine_words line.number v f (words line.text))

-- Two lists of fine refusals make one.
fine_both : (xs ys : List ObjFail) → list_all is_fine xs ≡ true → list_all is_fine ys ≡ true
    → list_all is_fine (xs ++ ys) ≡ true
fine_both xs ys x y = list_all-append is_fine xs ys ∙ rw x y

fine_readings : (before lines : List Logical) → list_all is_fine (flat_map refusal_in (readings before lines)) ≡ true
fine_readings before [] = refl
fine_readings before (line ∷ lines) = search (rules, fine_both, fine_reading, fine_readings (before ++ line ∷ []) lines)

fine_late : (n : ℕ) (r : Reading) → list_all is_fine (late_in n r) ≡ true
fine_late n r = search rules

fine_lates : (n : ℕ) (said : List Reading) → list_all is_fine (flat_map (late_in n) said) ≡ true
fine_lates n [] = refl
fine_lates n (r ∷ said) = fine_both (late_in n r) (flat_map (late_in n) said) (fine_late n r) (fine_lates n said)

-- The first of fine refusals is fine.
first_fine : (fails : List ObjFail) (soup : FaceSet) (fail : ObjFail) → list_all is_fine fails ≡ true
    → ◌≡◌ {A = Result FaceSet ObjFail} (first_refusal fails soup) (Err fail) → is_fine fail ≡ true
first_fine fails soup h1 h2 = search rules

-- So no text is refused for the number of all bytes.
pub never_bytes : (n : ℕ) (lines : Lines) (line : ℕ)
    → ◌≡◌ {A = Result FaceSet ObjFail} (text_soup n lines) (Err (Limit Bytes line)) → ⊥
never_bytes n lines line is =
    let said : List Reading = readings [] (logical_lines n lines) in
    let all : list_all is_fine (refusals said) ≡ true =
    fine_both (flat_map refusal_in said) (flat_map (late_in (length (positions said))) said)
    (fine_readings [] (logical_lines n lines)) (fine_lates (length (positions said)) said) in
    false≢true (first_fine (refusals said) _ (Limit Bytes line) all is)
