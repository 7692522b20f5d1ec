-- What the lines of a canonical text say, and the soup that they have.
use Rattle.def_text.specs.declared.reading.Reading.{Reading, TheVariants.Position, TheVariants.Face}
use Rattle.std.proofs.lemmas.{Simd.map-map, List.FromFn.length-range_with_len, List.Concat.flat_map-append}
use Rattle.std.proofs.lemmas.List.{get_or-map, get_or_default, length-map, same_lists, take_all, Folds.flat_map-map}
use Rattle.std.proofs.lemmas.{Fmt.decimal_nonempty, Bool.Decides.nat_tests, Bool.and_parts, Bool.le-ltb}
use Rattle.std.proofs.Common.{rules, Bool, List, arith, false, get_or, length, refl, true, zero, ◌++◌, map-id, ℤ}
use Rattle.std.proofs.Common.{Ok, [], eqb, ltb, map, not, pos, suc, ◌+◌, ◌-◌, ◌<◌, ◌^◌, ◌∙◌, ◌∷◌, ◌≡◌, ◌≤◌, None}
use Rattle.qm_obj.proofs.SoupLemmas.{same_images, are_below, length-numbers_to, numbers_at, used_renumbered}
use Rattle.qm_obj.proofs.LawText.{IsLine, decimal_word, line_words, lines_split, logical_plain, micro_word, plain_lines}
use Rattle.def_text.specs.Text.{used_to, line_vertex, numbers_to, position_of}
use Rattle.std.specs.{Prelude.decimal, List.range_with_len, List.flat_map, List.list_all, List.list_any, List.filter}
use Rattle.qm_obj.proofs.{LawText.AreWords, KeptLemmas.reading_suits, KeptLemmas.nothing_kept, CornerLemmas.plain_index}
use Rattle.qm_obj.proofs.{TailLemmas.passes_at, LawText.line_tame, LawText.line_text, KeptLemmas.kept_alone}
use Rattle.qm_dec.proofs.{ReadBack.decimal_digits, ReadBack.decimal_number, ReadBack.canonical_law}
use Rattle.def_text.specs.{Reading.words_reading, Corner.is_corner_word, Canonical.canonical_text, Canonical.micro_text}
use Rattle.def_text.specs.{Types.Positions, Reading.reading, Laws.is_position, Decimal.is_decimal, Corner.used_index}
use Rattle.def_text.specs.{Logical.Logical, Laws.ReadsBack, FaceSet.FaceSet, Decimal.rounded, Corner.resolved}
use Rattle.def_text.specs.{Words.words, Text.faces, Laws.is_quad, FaceSet.IsSoup, Decimal.is_far, Corner.is_out}
use Rattle.{qm_scan.proofs.Numbers.number_all, def_feed.specs.Kept.readings_behind, def_feed.specs.Kept.face_readings}
use Rattle.{qm_obj.specs.Kept.first_late, qm_obj.proofs.LawText.IsWord, std.proofs.lemmas.Grind.common_steps}
use Rattle.{std.proofs.Common.ap, std.proofs.Common.ℕ, def_mesh.specs.Faces.Faces, def_io.specs.Bytes.Lines}

-- What holds at each position of two lists holds at each position of both together, and of a map what holds of each
-- image.
pub each_both : {X : Type 0} (P : X → Type 0) (xs ys : List X) (d : X) → ((k : ℕ) → k < length xs → P (get_or xs k d))
    → ((k : ℕ) → k < length ys → P (get_or ys k d)) → (k : ℕ) → k < length (xs ++ ys) → P (get_or (xs ++ ys) k d)
each_both P [] ys d a b k l = b k l
each_both P (x ∷ xs) ys d a b zero l = a 0 (omega arith)
each_both P (x ∷ xs) ys d a b (suc k) l = each_both P xs ys d (λ j m. a (suc j) (omega arith)) b k (omega arith)

pub each_map : {X Y : Type 0} (P : Y → Type 0) (f : X → Y) (xs : List X) (c : X) (d : Y)
    → ((k : ℕ) → k < length xs → P (f (get_or xs k c))) → (k : ℕ) → k < length (map f xs) → P (get_or (map f xs) k d)
each_map {X} {Y} P f xs c d each k l = grind (arith, common_steps, each k)

-- What images of images are, where all elements pass a test.
images_are : {X Y Z : Type 0} (p : X → Bool) (f : X → Y) (g : Y → Z) (h : X → Z)
    → ((x : X) → p x ≡ true → g (f x) ≡ h x) → (xs : List X) → list_all p xs ≡ true → map g (map f xs) ≡ map h xs
images_are p f g h same xs all = map-map g f xs ∙ same_images p (λ x. g (f x)) h same xs all

-- The lines of the canonical text, without their ends.
abbrev pub position_line : List ℤ → List ℕ
position_line position = line_text 118 (map micro_text position)

abbrev pub vertex_word : ℕ → List ℕ
vertex_word v = decimal (v + 1)

abbrev pub face_line : List ℕ → List ℕ
face_line face = line_text 102 (map vertex_word face)

abbrev pub canonical_lines : FaceSet → Lines
canonical_lines s = map position_line s.pos ++ map face_line s.faces

pub text_lines : (s : FaceSet) → canonical_text s ≡ flat_map (λ l. l ++ 10 ∷ []) (canonical_lines s)
text_lines s = search (rules, flat_map-map, flat_map-append)

abbrev plain_line : ℕ → List ℕ → Logical
plain_line n l = record { number = n; size = length l; text = l }

-- A line that is not too long says what its words say.
said_by_words : {line : List ℕ} (vertices faces n : ℕ) {said : Reading} → IsLine line
    → words_reading n vertices faces (words line) ≡ said → reading vertices faces (plain_line n line) ≡ said
said_by_words vertices faces n is said = rw (le-ltb _ _ is.short) said

-- The words of a position.
position_words : (position : List ℤ) → is_position position ≡ true → AreWords (map micro_text position)
position_words position is = each_map IsWord micro_text position (pos 0) [] (λ k l.
    grind (arith, passes_at, micro_word (get_or position k (pos 0))))

positions_say : (position : List ℤ) → list_all (λ z. not (is_far z)) position ≡ true
    → (list_all is_decimal (map micro_text position) ≡ true)
    × (list_any (λ w. is_far (rounded w)) (map micro_text position) ≡ false)
    × (map rounded (map micro_text position) ≡ position)
positions_say [] near = (refl, refl, refl)
positions_say (z ∷ zs) near = grind (arith, nat_tests, canonical_law z, positions_say zs)

pub position_line_is : (position : List ℤ) → is_position position ≡ true → IsLine (position_line position)
position_line_is position is =
    line_tame _ _ refl (grind (arith, nat_tests, length-map position micro_text)) (position_words _ is)

position_said : (vertices faces n : ℕ) (position : List ℤ) → vertices < 2 ^ 21 → is_position position ≡ true
    → reading vertices faces (plain_line n (position_line position)) ≡ Position position
position_said vertices faces n position few is =
    let three : length (map micro_text position) ≡ 3 = grind (arith, nat_tests, length-map position micro_text) in
    let says = positions_say position (and_parts (eqb (length position) 3) _ is).1 in
    let first = take_all 3 (map micro_text position) (omega arith) in
    let said = line_words 118 (map micro_text position) refl (position_words position is) in
    said_by_words vertices faces n (position_line_is position is) (search rules)

-- The words of a face.
face_words : (vertices : ℕ) (face : List ℕ) → vertices ≤ 2 ^ 21 → are_below vertices face ≡ true
    → AreWords (map vertex_word face)
face_words vertices face few all = each_map IsWord vertex_word face 0 [] (λ k l.
    decimal_word (get_or face k 0 + 1) (grind (arith, nat_tests, passes_at (λ v. ltb v vertices) face k 0)))

names_vertex : (vertices n : ℕ) → 0 < n → n < 2 ^ 64 → (is_corner_word (decimal n) ≡ true)
    × (is_out vertices (used_index (decimal n)) ≡ false) × (resolved vertices (used_index (decimal n)) ≡ n)
names_vertex vertices n some small =
    let long : eqb (length (decimal n)) 0 ≡ false = search (rules, decimal_nonempty) in
    let plain = plain_index (decimal n) (number_all (decimal n) ∙ rw long (decimal_digits n small)) in
    search (rules, decimal_number)

faces_say : (vertices : ℕ) (face : List ℕ) → vertices ≤ 2 ^ 21 → are_below vertices face ≡ true
    → (list_all is_corner_word (map vertex_word face) ≡ true)
    × (list_any (λ w. is_out vertices (used_index w)) (map vertex_word face) ≡ false)
    × (map (λ w. resolved vertices (used_index w)) (map vertex_word face) ≡ map (λ v. v + 1) face)
faces_say vertices [] few all = (refl, refl, refl)
faces_say vertices (v ∷ vs) few all = grind (arith, nat_tests, names_vertex vertices (v + 1), faces_say vertices vs)

pub face_line_is : (vertices : ℕ) (face : List ℕ) → vertices ≤ 2 ^ 21 → is_quad face ≡ true → are_below vertices face
    ≡ true → IsLine (face_line face)
face_line_is vertices face few is all =
    line_tame _ _ refl (grind (arith, nat_tests, length-map face vertex_word)) (face_words _ _ few all)

face_said : (vertices faces n : ℕ) (face : List ℕ) → vertices ≤ 2 ^ 21 → faces < 2 ^ 20 → is_quad face ≡ true
    → are_below vertices face ≡ true
    → reading vertices faces (plain_line n (face_line face)) ≡ Face n (map (λ v. v + 1) face)
face_said vertices faces n face few room is all =
    let says = faces_say vertices face few all in
    let said = line_words 102 (map vertex_word face) refl (face_words _ _ few all) in
    said_by_words _ _ n (face_line_is _ _ few is all) (search (rules, says, said, length-map face vertex_word))

-- What the lines of all positions say, with lines behind them, and what those of all faces say.
positions_are_said : (v f n : ℕ) (ps : Positions) (ls : Lines) → list_all is_position ps ≡ true → v + length ps ≤ 2 ^ 21
    → readings_behind v f (plain_lines n (map position_line ps ++ ls))
    ≡ map Position ps ++ readings_behind (v + length ps) f (plain_lines (n + length ps) ls)
positions_are_said v f n [] ls all few = grind arith
positions_are_said v f n (p ∷ ps) ls all few =
    let said = position_said v f n p in
    let kind = reading_suits v f (plain_line n (position_line p)) in
    grind (arith, said, kind, positions_are_said (v + 1) f (n + 1) ps ls)

faces_said : (v f n : ℕ) (fs : Faces) → v ≤ 2 ^ 21 → list_all is_quad fs ≡ true → list_all (are_below v) fs ≡ true
    → f + length fs ≤ 2 ^ 20 → readings_behind v f (plain_lines n (map face_line fs))
    ≡ face_readings (range_with_len n (length fs)) (map (λ face. map (λ v. v + 1) face) fs)
faces_said v f n [] few quads below room = refl
faces_said v f n (face ∷ fs) few quads below room =
    let said = face_said v f n face in
    let kind = reading_suits v f (plain_line n (face_line face)) in
    grind (arith, said, kind, faces_said v (f + 1) (n + 1) fs)

-- None of them is late.
not_late : (n : ℕ) (fs : Faces) (l : List ℕ) → list_all (are_below n) fs ≡ true
    → first_late n (map (λ face. map (λ v. v + 1) face) fs) l ≡ None
not_late n (f ∷ fs) (line ∷ l) all = grind (arith, calm f, not_late n fs l)
  where
    calm : (f : List ℕ) → are_below n f ≡ true → list_any (λ corner. ltb n corner) (map (λ v. v + 1) f) ≡ false
    calm [] below = refl
    calm (v ∷ f) below = grind (arith, nat_tests, calm f)
not_late n [] l all = refl
not_late n _ _ all = refl

-- Where all are used, all are kept.
keeps_all : (p : ℕ → Bool) (n : ℕ) → ((k : ℕ) → k < n → p (k + 1) ≡ true) → filter p (numbers_to n) ≡ numbers_to n
keeps_all p zero each = refl
keeps_all p (suc n) each = grind (arith, common_steps, each n, keeps_all p n)

all_used_to : (s : FaceSet) → IsSoup s → (k : ℕ) → k ≤ length s.pos
    → used_to (map (λ f. map (λ v. v + 1) f) s.faces) k ≡ numbers_to k
all_used_to s soup k le = keeps_all _ k (λ j l. used_renumbered _ j s.faces (soup.used j (omega arith)))

positions_back : (ps : Positions) → map (position_of ps) (numbers_to (length ps)) ≡ ps
positions_back ps =
    let long = length-map (numbers_to (length ps)) (position_of ps) ∙ length-numbers_to _ in
    same_lists (map (position_of ps) (numbers_to (length ps))) ps long (λ k d l.
    let read = get_or-map (position_of ps) (numbers_to (length ps)) k 0 d in
    let many = length-numbers_to (length ps) in
    grind (arith, read, many, numbers_at (length ps) k, get_or_default ps k [] d))

faces_back : (fs : Faces) (n : ℕ) → ((k : ℕ) → k ≤ n → used_to fs k ≡ numbers_to k) → (some : Faces)
    → list_all (are_below n) some ≡ true
    → map (λ corners. map (line_vertex fs) corners) (map (λ f. map (λ v. v + 1) f) some) ≡ some
faces_back fs n used some all =
    let corner : (v : ℕ) → ltb v n ≡ true → line_vertex fs (v + 1) ≡ v = search (rules, length-numbers_to) in
    images_are _ _ _ _ (λ f below. images_are _ _ _ _ corner f below ∙ map-id f) _ all ∙ map-id some

-- The canonical text of a soup reads back.
pub text_back : ReadsBack
text_back s is =
    let soup = is.soup in
    let lines = canonical_lines s in
    let v = length s.pos in
    let count = range_with_len (1 + v) (length s.faces) in
    let named = map (λ f. map (λ v. v + 1) f) s.faces in
    let each = each_both IsLine (map position_line s.pos) (map face_line s.faces) []
    (each_map IsLine position_line s.pos [] [] (λ k l. position_line_is (get_or s.pos k [])
    (passes_at is_position s.pos k [] is.positions l)))
    (each_map IsLine face_line s.faces [] [] (λ k l. face_line_is v (get_or s.faces k []) is.few_vertices
    (passes_at is_quad s.faces k [] is.quads l) (passes_at (are_below v) s.faces k [] soup.in_range l))) in
    let long = length-range_with_len (1 + v) (length s.faces) in
    let sizes : length count ≡ length named = grind (arith, common_steps, long) in
    let said = positions_are_said 0 0 1 s.pos (map face_line s.faces) is.positions (omega arith) in
    let behind = faces_said v 0 (1 + v) s.faces is.few_vertices is.quads soup.in_range (omega arith) in
    let used = all_used_to s soup in
    let at_v : 0 + v ≡ v = omega arith in
    rw (text_lines s, lines_split lines each, logical_plain 1 lines each, ← nothing_kept (plain_lines 1 lines))
    (rw (said, at_v, behind, kept_alone s.pos named count sizes, not_late v s.faces count soup.in_range)
    (ap Ok (search (rules, positions_back, faces_back))))
