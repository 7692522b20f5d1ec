-- The words of a line, one after another.
use Rattle.def_text.specs.declared.refusal.ObjFail.TheVariants.{NotQuad, Range, Syntax}
use Rattle.def_text.specs.declared.reading.Reading.TheVariants.{Passed, Face, Position, Refused}
use Rattle.std.proofs.lemmas.List.{get_or-take, length-drop, length-take, length-take-le, Folds.list_all_more}
use Rattle.std.proofs.lemmas.List.{drop_more, get_or-map, length-map, same_lists, take_all}
use Rattle.std.proofs.lemmas.Bool.{cases_Bool, true≢false, Decides.nat_tests}
use Rattle.std.specs.List.{position_or_len, before_first, list_all, list_any}
use Rattle.std.proofs.Common.{rules, Bool, List, None, Some, arith, cond, drop, false, get_or, length, refl, take, true}
use Rattle.std.proofs.Common.{[], ap, eqb, map, set, suc, sym, ◌+◌, ◌<◌, ◌∙◌, ◌∷◌, ◌≡◌, ◌≤◌, ◌^◌, ℕ}
use Rattle.qm_obj.specs.Lines.{uncommented, with_word, IsFilled, IsReadTo, is_end}
use Rattle.def_text.specs.Reading.{face_reading, is_letter, vertex_reading, words_reading, is_position_count}
use Rattle.def_text.specs.Corner.{is_corner_word, used_index, is_out, resolved}
use Rattle.qm_obj.specs.{declared.position.Coordinate.Coordinate, Positions.coordinate, Indices.with_clamped}
use Rattle.qm_obj.specs.{Positions.all_near, Indices.corner_of, Indices.clamped}
use Rattle.def_text.specs.{Words.is_blank, Logical.is_hash, Decimal.is_decimal, Decimal.rounded}
use Rattle.def_text.specs.{Words.words, Types.Words, Text.faces, Decimal.is_far}
use Rattle.{std.specs.Option.option_map_or, qm_obj.proofs.TailLemmas.all_before, std.proofs.lemmas.Grind.common_steps}

-- A text that begins with no blank has its prefix up to the first blank as its first word.
pub words_word : (b : ℕ) (bs : List ℕ) → is_blank b ≡ false → words (b ∷ bs)
    ≡ take (suc (position_or_len is_blank bs)) (b ∷ bs) ∷ words (drop (suc (position_or_len is_blank bs)) (b ∷ bs))
words_word b [] off = rw off refl
words_word b (c ∷ cs) off =
    let e : 1 + position_or_len is_blank cs ≡ suc (position_or_len is_blank cs) = omega arith in
    grind (arith, e, words_word c cs)

-- A line that goes on with a word has its bytes up to the first end as that word, and its comment is cut behind it.
word_ahead : (b : ℕ) (bs : List ℕ) → is_blank b ≡ false → words (b ∷ uncommented bs)
    ≡ (b ∷ take (position_or_len is_end bs) bs) ∷ words (uncommented (drop (position_or_len is_end bs) bs))
word_ahead b [] off = rw off refl
word_ahead b (c ∷ cs) off =
    let e : 1 + position_or_len is_end cs ≡ suc (position_or_len is_end cs) = omega arith in
    grind (arith, common_steps, word_ahead c cs)

-- The first word of a line that is empty or begins with no blank.
pub first_word : (rest : List ℕ) → (0 < length rest → is_blank (get_or rest 0 0) ≡ false)
    → words (uncommented rest) ≡ with_word (take (position_or_len is_end rest) rest)
    (words (uncommented (drop (position_or_len is_end rest) rest)))
first_word [] at_word = refl
first_word (b ∷ bs) at_word =
    let e : 1 + position_or_len is_end bs ≡ suc (position_or_len is_end bs) = omega arith in
    search (rules, word_ahead)

-- A line without its comment is what stands before its first `#`.
pub uncommented_is : (line : List ℕ) → uncommented line ≡ before_first is_hash line
uncommented_is [] = refl
uncommented_is (b ∷ bs) =
    let e : 1 + position_or_len is_hash bs ≡ suc (position_or_len is_hash bs) = omega arith in
    grind (arith, e, uncommented_is bs)

pub uncommented_none : (line : List ℕ) → list_any is_hash line ≡ false → uncommented line ≡ line
uncommented_none line none = uncommented_is line ∙ all_before is_hash line none

-- No text has more words than bytes.
pub words_few : (bytes : List ℕ) → length (words bytes) ≤ length bytes
words_few [] = omega arith
words_few (b ∷ bs) = search (rules, cases_Bool (is_blank b), words_few bs)

-- Nor has a line more words than bytes in front of its comment.
pub words_short : (line : List ℕ) → length (words (uncommented line)) ≤ length line
words_short line =
    let cut = length-take (position_or_len is_hash line) line in
    rw (uncommented_is line) (omega (arith, words_few (before_first is_hash line), cut))

-- The slots have what the first words say.
pub filled_all : {X : Type 0} (says : List ℕ → X) (all : Words) (count size : ℕ) (slots : List X) → size ≤ count
    → size ≤ length all → IsFilled says all count size slots → slots ≡ map says (take size all)
filled_all says all count size slots read fits filled =
    search (rules, same_lists, length-take-le, length-map, get_or-map, get_or-take)

-- What a test gives, where it gives something, and where it gives nothing.
pub some_from : {X : Type 0} (t : Bool) (x y : X) → cond t (Some x) None ≡ Some y → (t ≡ true) × (y ≡ x)
some_from t x y is = grind (arith)

-- Where the next word is one, fewer are left behind it.
pub fewer_left : (word : List ℕ) (after : Words) {rest : Words} {none : Bool} → rest ≡ with_word word after
    → none ≡ eqb (length word) 0 → none ≡ false → length after < length rest
fewer_left [] after first is some = absurd (true≢false (sym is ∙ some))
fewer_left (b ∷ bs) after first is some = omega (arith, ap length first)

module _ {X : Type 0} {test : List ℕ → Bool} {says : List ℕ → X} {all : Words} {size count : ℕ} {rest : Words}
    {slots : List X} (read : IsReadTo test says all size count rest slots) (word : List ℕ) (after : Words) {none : Bool}
    (first : rest ≡ with_word word after) (is : none ≡ eqb (length word) 0) where
  -- Where the next word is one, it is the word at this position.
  next_read : none ≡ false → (count < length all) × (get_or all count [] ≡ word) × (after ≡ drop (count + 1) all)
  next_read some = grind (arith, common_steps, drop_more all count [])

  -- It passes the test, and what it says is put into its slot; or it does not pass.
  pub read_more : {x : X} → none ≡ false → cond (test word) (Some (says word)) None ≡ Some x
      → IsReadTo test says all size (count + 1) after (set slots count x)
  read_more {x} some says_x = let next = next_read some in search (rules, list_all_more)

  pub read_bad : none ≡ false → cond (test word) (Some (says word)) None ≡ None → list_all test all ≡ false
  read_bad some says_none = grind (arith, common_steps, next_read some)

  -- No word is left, so all are read, each passes the test, and the slots have what the first ones say.
  all_read : none ≡ true → (length all ≡ count) × (list_all test all ≡ true)
      × (size ≤ count → slots ≡ map says (take size all))
  all_read empty =
      let past : length all ≤ count = grind (arith, length-drop count all) in search (rules, take_all, filled_all)

-- What the first word and the words behind it say.
pub by_first_word : (line vertices faces : ℕ) (all rest : Words) (first : List ℕ) → all ≡ with_word first rest
    → with_clamped (words_reading line vertices faces all)
    ≡ cond (is_letter 118 first) (vertex_reading line vertices rest)
    (cond (is_letter 102 first) (with_clamped (face_reading line vertices faces rest)) Passed)
by_first_word line vertices faces all rest first is = grind arith

-- What `v` lines and `f` lines say whose words are all read, or of which one is no decimal or no corner.

all_coordinates : (ws : Words) → all_near (map coordinate ws) ≡ cond (list_any (λ w. is_far (rounded w)) ws) None
    (Some (map rounded ws))
all_coordinates [] = refl
all_coordinates (w ∷ ws) = grind (arith, all_coordinates ws)

pub vertex_read : {ws rest : Words} {count : ℕ} {slots : List Coordinate} (line vertices : ℕ) → vertices < 2 ^ 21
    → IsReadTo is_decimal coordinate ws 3 count rest slots → (word : List ℕ) (after : Words) {none : Bool}
    → rest ≡ with_word word after → none ≡ eqb (length word) 0 → none ≡ true
    → vertex_reading line vertices ws ≡ cond (is_position_count count)
    (option_map_or Position (all_near slots) (Refused (Range line))) (Refused (Syntax line))
vertex_read {ws} {rest} {count} {slots} line vertices few so_far word after first is none =
    let read = all_read so_far word after first is none in
    grind (arith, nat_tests, all_coordinates (take 3 ws))

-- A corner that is out is kept as 0, and no other.
any_out : (vertices : ℕ) (ws : Words) → list_any (λ corner. eqb corner 0) (map (corner_of vertices) ws)
    ≡ list_any (λ w. is_out vertices (used_index w)) ws
any_out vertices [] = refl
any_out vertices (w ∷ ws) = grind (arith, nat_tests, any_out vertices ws)

all_in : (vertices : ℕ) (ws : Words) → list_any (λ w. is_out vertices (used_index w)) ws ≡ false
    → map (corner_of vertices) ws ≡ map clamped (map (λ w. resolved vertices (used_index w)) ws)
all_in vertices [] inside = refl
all_in vertices (w ∷ ws) inside = grind (arith, nat_tests, all_in vertices ws)

pub face_read : {ws rest : Words} {count : ℕ} {corners : List ℕ} (line vertices faces : ℕ) → faces < 2 ^ 20
    → IsReadTo is_corner_word (corner_of vertices) ws 4 count rest corners → (word : List ℕ) (after : Words)
    {none : Bool} → rest ≡ with_word word after → none ≡ eqb (length word) 0 → none ≡ true
    → with_clamped (face_reading line vertices faces ws) ≡ cond (eqb count 4)
    (cond (list_any (λ corner. eqb corner 0) corners) (Refused (Range line)) (Face line corners))
    (Refused (NotQuad line count))
face_read {ws} {rest} {count} {corners} line vertices faces few so_far word after first is none =
    grind (arith, common_steps, all_read so_far word after first is none, any_out vertices ws, all_in vertices ws)
