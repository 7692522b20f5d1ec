-- What lines say one behind the other, which faces are late, and what clamping changes.
use Rattle.def_text.specs.declared.reading.Reading.TheVariants.{Passed, Position, Refused, Face}
use Rattle.def_text.specs.declared.refusal.ObjFail.{ObjFail, TheVariants.Memory, TheVariants.Range}
use Rattle.std.proofs.lemmas.List.{length-append, Sums.sum_by_push, Folds.list_all-append, Concat.flat_map-append}
use Rattle.std.proofs.lemmas.{List.append_assoc, List.length_push, List.append-nil, Bool.Decides.nat_tests}
use Rattle.std.proofs.Common.{rules, List, None, Some, arith, false, refl, true, ◌++◌, [], Bool, Option, Result, length}
use Rattle.std.proofs.Common.{Err, ltb, map, ◌^◌, ◌∷◌, ◌≡◌, ◌≤◌, ◌<◌, ℕ, cond, Ok, ap, sym, ℤ, ◌+◌, ◌∙◌, ◌≢◌}
use Rattle.def_text.specs.Text.{first_refusal, late_in, readings, refusal_in, face_set, positions, soup_of, faces}
use Rattle.def_text.specs.Reading.{face_reading, is_face_line, is_letter, is_vertex_line, vertex_reading, words_reading}
use Rattle.std.specs.{Prelude.IfErr, Prelude.IfOk, List.flat_map, List.list_all, List.list_any, List.count_by}
use Rattle.qm_obj.specs.{Lines.next_said, Kept.first_late, Kept.IsLate, Indices.with_clamped, Indices.clamped}
use Rattle.qm_obj.proofs.SoupLemmas.{same_faces, few_pos}
use Rattle.def_text.specs.{declared.reading.Reading.Reading, Types.Positions, Reading.begins_with, Corner.used_index}
use Rattle.def_text.specs.{Reading.reading, Logical.Logical, FaceSet.FaceSet, Corner.resolved, Corner.is_out}
use Rattle.{def_text.specs.Words.words, def_feed.specs.Kept.readings_behind, def_feed.specs.Kept.face_readings}
use Rattle.{qm_obj.specs.Lines.Fits, qm_obj.specs.Lines.Took, def_text.specs.Types.Words, def_mesh.specs.Faces.Faces}
use Rattle.{std.specs.Prelude.⊤, std.proofs.lemmas.Grind.common_steps}

-- A line of this kind, after so many `v` and `f` lines, may say this.
abbrev pub Suits : (vertices faces : ℕ) (vertex face : Bool) (said : Reading) → Type 0
Suits vertices faces vertex face Passed = (vertex ≡ false) × (face ≡ false)
Suits vertices faces vertex face (Position place) = (vertex ≡ true) × (face ≡ false) × (vertices < 2 ^ 21)
Suits vertices faces vertex face (Face n corners) =
    (vertex ≡ false) × (face ≡ true) × (faces < 2 ^ 20) × (list_all (λ corner. ltb 0 corner) corners ≡ true)
Suits vertices faces vertex face (Refused fail) = ⊤

-- An index that is not out names a positive number.
positive_corners : (vertices : ℕ) (ws : Words) → list_any (λ w. is_out vertices (used_index w)) ws ≡ false
    → list_all (λ corner. ltb 0 corner) (map (λ w. resolved vertices (used_index w)) ws) ≡ true
positive_corners vertices [] inside = refl
positive_corners vertices (w ∷ ws) inside = grind (arith, nat_tests, positive_corners vertices ws)

vertex_suits : (line vertices faces : ℕ) (ws : Words)
    → Suits vertices faces true false (vertex_reading line vertices ws)
vertex_suits line vertices faces ws = grind (arith, nat_tests)

face_suits : (line vertices faces : ℕ) (ws : Words)
    → Suits vertices faces false true (face_reading line vertices faces ws)
face_suits line vertices faces ws = grind (arith, nat_tests, positive_corners vertices ws)

no_face : (word : List ℕ) → is_letter 118 word ≡ true → is_letter 102 word ≡ false
no_face word v = grind (arith, nat_tests)

words_suit : (line vertices faces : ℕ) (ws : Words)
    → Suits vertices faces (begins_with 118 ws) (begins_with 102 ws) (words_reading line vertices faces ws)
words_suit line vertices faces [] = (refl, refl)
words_suit line vertices faces (word ∷ ws) =
    grind (arith, vertex_suits line vertices faces ws, face_suits line vertices faces ws, no_face word)

-- What a line says fits its kind and the limits.
pub reading_suits : (vertices faces : ℕ) (line : Logical)
    → Suits vertices faces (is_vertex_line line) (is_face_line line) (reading vertices faces line)
reading_suits vertices faces line = grind (arith, words_suit line.number vertices faces (words line.text))

-- The soup of faces is refused at the first late one.
abbrev pub late_or : {X : Type 0} → (late : Option ℕ) (x : X) → Result X ObjFail
late_or None x = Ok x
late_or (Some line) x = Err (Range line)

late_first : {X : Type 0} (n : ℕ) (c : Faces) (l : List ℕ) (x : X)
    → first_refusal (flat_map (late_in n) (face_readings l c)) x ≡ late_or (first_late n c l) x
late_first n (corners ∷ c) (line ∷ l) x = grind (arith, late_first n c l x)
late_first n [] [] x = refl
late_first n _ _ x = refl

-- Clamped corners are positive where the corners are, and late where they are; those that are not late are not clamped.
positive_clamped : (corners : List ℕ) → list_all (λ corner. ltb 0 corner) corners ≡ true
    → list_all (λ corner. ltb 0 corner) (map clamped corners) ≡ true
positive_clamped [] all = refl
positive_clamped (corner ∷ corners) all = grind (arith, nat_tests, positive_clamped corners)

any_clamped : (n : ℕ) → n ≤ 2 ^ 21 → (corners : List ℕ) → list_any (λ corner. ltb n corner) (map clamped corners)
    ≡ list_any (λ corner. ltb n corner) corners
any_clamped n few [] = refl
any_clamped n few (corner ∷ corners) = grind (arith, nat_tests, any_clamped n few corners)

unclamped_face : (n : ℕ) → n ≤ 2 ^ 21 → (corners : List ℕ) → list_any (λ corner. ltb n corner) corners ≡ false
    → map clamped corners ≡ corners
unclamped_face n few [] calm = refl
unclamped_face n few (corner ∷ corners) calm = grind (arith, nat_tests, unclamped_face n few corners)

-- What positions and faces say that are kept, and the soup with lines behind them.
abbrev pub kept_says : (p : Positions) (c : Faces) (l : List ℕ) → List Reading
kept_says p c l = map (λ position. Position position) p ++ face_readings l c

abbrev pub soup_behind : (p : Positions) (c : Faces) (l : List ℕ) (lines : List Logical) → Result FaceSet ObjFail
soup_behind p c l lines = soup_of (kept_says p c l ++ readings_behind (length p) (length c) lines)

-- What is kept and what is said behind it, together.
kept_behind : (p : Positions) (c : Faces) (l : List ℕ) (said : List Reading) → length l ≡ length c
    → let all = kept_says p c l ++ said in record {
      refusals : flat_map refusal_in all ≡ flat_map refusal_in said;
      positions_are : positions all ≡ p ++ positions said;
      faces_are : faces all ≡ c ++ faces said;
      late : (n : ℕ) → flat_map (late_in n) all ≡ flat_map (late_in n) (face_readings l c)
          ++ flat_map (late_in n) said;
    }
kept_behind (x ∷ p) c l said sizes = grind (arith, kept_behind p c l said sizes)
kept_behind [] (x ∷ c) (n ∷ l) said sizes = let again = kept_behind [] c l said (omega arith) in
    grind (arith, common_steps)
kept_behind [] [] [] said sizes = grind arith
kept_behind [] _ _ said sizes = absurd (omega arith)

faces_pushed : (l : List ℕ) (c : Faces) (n : ℕ) (x : List ℕ) → length l ≡ length c
    → face_readings (l ++ n ∷ []) (c ++ x ∷ []) ≡ face_readings l c ++ Face n x ∷ []
faces_pushed [] [] n x sizes = refl
faces_pushed (m ∷ l) (y ∷ c) n x sizes = ap (λ said. Face m y ∷ said) (faces_pushed l c n x (omega arith))
faces_pushed _ _ n x sizes = absurd (omega arith)

-- The soup of kept positions and faces, with readings behind them.
abbrev kept_soup : (p : Positions) (c : Faces) (l : List ℕ) (said : List Reading) → Result FaceSet ObjFail
kept_soup p c l said =
    let n = length (p ++ positions said) in
    first_refusal (flat_map refusal_in said ++ (flat_map (late_in n) (face_readings l c) ++ flat_map (late_in n) said))
    (face_set (p ++ positions said) (c ++ faces said))

kept_soup_is : (p : Positions) (c : Faces) (l : List ℕ) (said : List Reading) → length l ≡ length c
    → soup_of (kept_says p c l ++ said) ≡ kept_soup p c l said
kept_soup_is p c l said sizes = let is = kept_behind p c l said sizes in
    rw (is.refusals, is.positions_are, is.faces_are, is.late (length (p ++ positions said))) refl

-- Where no line behind is refused, the positions stay within the limit.
few_behind : (vertices faces : ℕ) (lines : List Logical) → vertices ≤ 2 ^ 21
    → flat_map refusal_in (readings_behind vertices faces lines) ≡ []
    → vertices + length (positions (readings_behind vertices faces lines)) ≤ 2 ^ 21
few_behind v f [] few none = omega arith
few_behind v f (line ∷ lines) few none =
    let again = few_behind (v + cond (is_vertex_line line) 1 0) (f + cond (is_face_line line) 1 0) lines in
    grind (arith, length-append {A = List ℤ})

-- A refusal is the first one whatever the soup would be; where there is none behind, the soups may differ no more.
same_first : {R L M : List ObjFail} {s t : FaceSet} → (R ≡ [] → L ≡ M) → (R ≡ [] → L ≡ [] → s ≡ t)
    → first_refusal (R ++ L) s ≡ first_refusal (R ++ M) t
same_first {R = fail ∷ fails} late same = refl
same_first {R = []} {L} {M} late same = grind arith

-- A face more among those that are kept, with clamped corners.
face_more : (p : Positions) (c : Faces) (l : List ℕ) (n : ℕ) (corners : List ℕ) (said : List Reading)
    → length l ≡ length c → (flat_map refusal_in said ≡ [] → length (p ++ positions said) ≤ 2 ^ 21)
    → kept_soup p c l (Face n corners ∷ said) ≡ kept_soup p (c ++ map clamped corners ∷ []) (l ++ n ∷ []) said
face_more p c l n corners said sizes few =
    search (rules, flat_map-append, same_first, faces_pushed, any_clamped, append_assoc, unclamped_face)

-- A line more, that is not refused.
more_said : {p p' : Positions} {c c' : Faces} {l l' : List ℕ} (one : Reading) (said : List Reading)
    → length l ≡ length c → Took p p' c c' l l' (with_clamped one)
    → (flat_map refusal_in said ≡ [] → length p' + length (positions said) ≤ 2 ^ 21)
    → kept_soup p c l (one ∷ said) ≡ kept_soup p' c' l' said
more_said (Refused fail) said sizes took few = absurd (cc took.accepted)
more_said {p} {c = c} {l} (Face n corners) said sizes took few =
    rw (took.position, append-nil p, took.face, took.line) (search (rules, face_more, length-append))
more_said {p} {c = c} {l} _ said sizes took few =
    rw (took.position, took.face, took.line) (simp (append-nil, append_assoc))

-- How much longer the lists of what is kept are behind a line.
record Grown (p p' : Positions) (c c' : Faces) (l' : List ℕ) (v f : Bool) : Type 0 where
  vertices : length p' ≡ length p + cond v 1 0
  faces_are : length c' ≡ length c + cond f 1 0
  fits : Fits p' c' l'

grown_by : {p p' : Positions} {c c' : Faces} {l l' : List ℕ} {v f : Bool} (said : Reading) → Suits (length p) (length c)
    v f said → Fits p c l → Took p p' c c' l l' (with_clamped said) → Grown p p' c c' l' v f
grown_by (Refused fail) suits old took = absurd (cc took.accepted)
grown_by {p} {c = c} {l} _ suits old took =
    search (rules, append-nil, list_all-append, length_push, positive_clamped)

module _ {p p' : Positions} {c c' : Faces} {l l' : List ℕ} (line : Logical) (old : Fits p c l)
    (took : Took p p' c c' l l' (next_said p c line)) where
  grown : Grown p p' c c' l' (is_vertex_line line) (is_face_line line)
  grown = grown_by (reading (length p) (length c) line) (reading_suits (length p) (length c) line) old took

  -- What is kept with the lines behind it has the same soup.
  pub line_taken : (rest : List Logical) → soup_behind p c l (line ∷ rest) ≡ soup_behind p' c' l' rest
  line_taken rest =
      let behind = readings_behind (length p') (length c') rest in
      let counts : readings_behind (length p + cond (is_vertex_line line) 1 0)
      (length c + cond (is_face_line line) 1 0) rest ≡ behind = rw (grown.vertices, grown.faces_are) refl in
      kept_soup_is p c l _ old.sizes ∙ ap (λ (said : List Reading). kept_soup p c l (reading (length p) (length c) line
      ∷ said)) counts ∙ more_said _ behind old.sizes took (few_behind _ _ rest grown.fits.few_vertices)
      ∙ sym (kept_soup_is p' c' l' _ grown.fits.sizes)

-- A position that is put behind the others, or a face with its line, or neither.
pub fits_position : {p p' : Positions} {c : Faces} {l : List ℕ} (line : Logical) {place : List ℤ} (t : Bool)
    → Fits p c l → next_said p c line ≡ Position place → p' ≡ cond t (p ++ place ∷ []) p → Fits p' c l
fits_position {p} {p'} {c} {l} line t old is kept =
    grind (arith, reading_suits (length p) (length c) line, length_push p)

pub fits_face : {p : Positions} {c c' : Faces} {l l' : List ℕ} (line : Logical) {n : ℕ} {corners : List ℕ} (t : Bool)
    → Fits p c l → next_said p c line ≡ Face n corners → c' ≡ cond t (c ++ corners ∷ []) c
    → l' ≡ cond t (l ++ n ∷ []) l → Fits p c' l'
fits_face line true old is kept numbered = (grown line old (search rules)).fits
fits_face line false old is kept numbered = rw (kept, numbered) old

-- A line that is refused is the first one.
pub stops_at : (p : Positions) (c : Faces) (l : List ℕ) (line : Logical) (rest : List Logical) {fail : ObjFail}
    → length l ≡ length c → next_said p c line ≡ Refused fail → soup_behind p c l (line ∷ rest) ≡ Err fail
stops_at p c l line rest {fail} sizes is =
    grind (arith, kept_soup_is p c l (readings_behind (length p) (length c) (line ∷ rest)) sizes)

-- What all lines together say, where nothing was kept.
readings_by_counts : (before lines : List Logical) → readings before lines
    ≡ readings_behind (count_by is_vertex_line before) (count_by is_face_line before) lines
readings_by_counts before [] = refl
readings_by_counts before (line ∷ lines) = search (rules, sum_by_push, readings_by_counts (before ++ line ∷ []) lines)

pub nothing_kept : (lines : List Logical) → soup_behind [] [] [] lines ≡ soup_of (readings [] lines)
nothing_kept lines = ap soup_of (sym (readings_by_counts [] lines))

-- The soup of what is kept, or its late refusal, as `finish` says it.
pub kept_alone : (p : Positions) (c : Faces) (l : List ℕ) → length l ≡ length c
    → soup_of (kept_says p c l) ≡ late_or (first_late (length p) c l) (face_set p c)
kept_alone p c l sizes = rw append-nil at (kept_soup_is p c l [] sizes)
    ∙ rw (append-nil p, append-nil c, append-nil _) (late_first _ c l _)

pub finished : {p : Positions} {c : Faces} {l : List ℕ} → Fits p c l → {said : Result FaceSet ObjFail}
    → said ≡ soup_of (kept_says p c l) → (r : Result FaceSet ObjFail)
    → IfOk r (λ s. (first_late (length p) c l ≡ None) × (s ≡ face_set p c))
    → IfErr r (λ fail. fail ≢ Memory → IsLate fail (first_late (length p) c l)) → record {
      soup : IfOk r (λ s. said ≡ Ok s);
      few : IfOk r (λ s. (length s.pos ≤ 2 ^ 21) × (length s.faces ≤ 2 ^ 20));
      refused : IfErr r (λ fail. fail ≢ Memory → said ≡ Err fail);
    }
finished {p} {c} {l} old is r made late = search (rules, kept_alone p c l, few_pos p c, same_faces p c)
