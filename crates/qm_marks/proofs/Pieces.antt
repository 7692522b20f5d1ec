-- The corners of a line, word by word.
use Rattle.std.proofs.Common.{rules, Bool, List, Some, cond, drop, eqb, false, length, map, sym, take, true, ◌&&◌, ◌++◌}
use Rattle.std.proofs.Common.{◌+◌, [], ◌∙◌, ◌∷◌, ◌≡◌, ap, ℕ, arith, get_or, refl, suc, ◌<◌, MatchOption, None, Option}
use Rattle.std.proofs.Common.{is_some, length-drop, ◌-◌, ◌^◌, ◌≤◌}
use Rattle.std.proofs.lemmas.List.Splits.{length-slice_split, slice_split_first, slice_split_none}
use Rattle.std.proofs.{lemmas.List.append_assoc, lemmas.List.drop-drop, lemmas.List.take_all, lemmas.Bool.cond-false}
use Rattle.std.proofs.{lemmas.Bool.ne_eqb, lemmas.Bool.true≢false, lemmas.List.Sums.fails_before_first}
use Rattle.std.specs.{List.after_first, List.list_all, List.position_or_len, Prelude.min}
use Rattle.def_text.specs.{Corner.is_optional, Corner.used_index, Corner.is_slash, Digits.is_signed}
use Rattle.def_text.specs.{Digits.number_written, declared.index.Index.Index, Types.Word, Types.Words, Words.words}
use Rattle.def_text.specs.{Words.is_blank}
use Rattle.def_marks.specs.Lines.{corner_index, is_line_corner}
use Rattle.def_fit.specs.WishLines.{is_counting, is_whole, wished_by}
use Rattle.qm_marks.specs.{Wishing.IsSaid, Wishing.pieces_of, declared.said.Said.Said}
use Rattle.{qm_obj.proofs.WordLemmas.words_word, qm_obj.proofs.WordLemmas.some_from, def_io.specs.Bytes.Bytes}

-- Some words of a line are read, and the rest is left.
pub record IsReadTo (all before : ℕ) (text rest : List ℕ) (indices : List Index) : Type 0 where
  pub passed : list_all is_line_corner (words rest) ≡ list_all is_line_corner (words text)
  pub items : indices ++ map (corner_index all before) (words rest) ≡ map (corner_index all before) (words text)

-- One corner more.
pub read_more : {all before : ℕ} {text rest after : List ℕ} {word : Word} {indices : List Index} {index : Index}
    → IsReadTo all before text rest indices → words rest ≡ word ∷ words after
    → (is_line_corner word ≡ true) × (index ≡ corner_index all before word)
    → IsReadTo all before text after (indices ++ index ∷ [])
read_more {all} {before} {text} {rest} {after} {word} {indices} {index} to next is = search (rules, append_assoc)

-- A word by its parts before and behind its first slash.
behind_slash : (p : ℕ → Bool) (word : Word) → drop 1 (drop (position_or_len p word) word) ≡ after_first p word
behind_slash p word = drop-drop 1 (position_or_len p word) word

pub corner_found : (word first tail : List ℕ) (p : ℕ) → p ≡ position_or_len is_slash word → first ≡ take p word → tail
    ≡ drop p word → (is_line_corner word ≡ (is_signed first && is_optional (drop 1 tail))) × (used_index word ≡ first)
corner_found word first tail p at front back = search (rules, behind_slash)

-- The first word of a line.

some_bytes : (k : ℕ) → eqb (suc k) 0 ≡ false
some_bytes k = ne_eqb (suc k) 0 (λ (z : suc k ≡ 0). omega arith)

-- A text that is empty or begins with no blank, by its first word.
pub first_word : (rest : List ℕ) → (0 < length rest → is_blank (get_or rest 0 0) ≡ false)
    → words rest ≡ cond (eqb (length (take (position_or_len is_blank rest) rest)) 0) []
    (take (position_or_len is_blank rest) rest ∷ words (drop (position_or_len is_blank rest) rest))
first_word [] at_word = refl
first_word (b ∷ bs) at_word =
    let off : is_blank b ≡ false = at_word (omega arith) in
    let end : position_or_len is_blank (b ∷ bs) ≡ suc (position_or_len is_blank bs) = rw off (omega arith) in
    let n = suc (position_or_len is_blank bs) in
    rw end (words_word b bs off ∙ sym (cond-false (eqb (length (take n (b ∷ bs))) 0) []
    (take n (b ∷ bs) ∷ words (drop n (b ∷ bs))) (some_bytes (length (take (position_or_len is_blank bs) bs)))))

-- Pieces of a text that are divided by one blank each, and the numbers that they write.

module _ (text front behind : Bytes) (i : ℕ) (at : i ≡ position_or_len (λ b. eqb b 32) text) (before : front
    ≡ take i text) (back : behind ≡ drop i text) where
  -- A text without a blank is one piece.
  pub one_piece : length behind < 1 → pieces_of text ≡ text ∷ []
  one_piece none = search (rules, length-drop, slice_split_none, fails_before_first)

  -- And else its first piece ends at the first.
  pub first_piece : 1 ≤ length behind → pieces_of text ≡ front ∷ pieces_of (take (length behind - 1) (drop 1 behind))
  first_piece some =
      let inside : position_or_len (λ b. eqb b 32) text < length text =
      omega (arith, length-drop i text, ap length back) in
      let tail : drop (position_or_len (λ b. eqb b 32) text + 1) text ≡ take (length behind - 1) (drop 1 behind) =
      ap (λ (k : ℕ). drop (k + 1) text) (sym at) ∙ sym (drop-drop 1 i text) ∙ ap (drop 1) (sym back)
      ∙ sym (take_all (length behind - 1) (drop 1 behind) (omega (arith, length-drop 1 behind))) in
      slice_split_first (λ b. eqb b 32) text 0 inside
      ∙ (λ j. (ap (λ (k : ℕ). take k text) (sym at) ∙ sym before) j ∷ pieces_of (tail j))

-- There is one piece at least.
some_piece : (text : Bytes) → (word : Word) × (more : Words) × (pieces_of text ≡ word ∷ more)
some_piece text = by_list (pieces_of text) (omega (arith, length-slice_split (λ b. eqb b 32) text))
  where
    by_list : (list : Words) → 1 ≤ length list → (word : Word) × (more : Words) × (list ≡ word ∷ more)
    by_list [] low = absurd (omega arith)
    by_list (word ∷ more) low = (word, more, refl)

-- Four pieces or more wish for nothing.
pub too_many : (text behind last rest u v w : Bytes) → pieces_of text ≡ u ∷ pieces_of behind → pieces_of behind
    ≡ v ∷ pieces_of last → pieces_of last ≡ w ∷ pieces_of rest → wished_by (pieces_of text) ≡ None
too_many text behind last rest u v w one two three =
    let four = some_piece rest in
    ap wished_by (one ∙ (λ i. u ∷ two i) ∙ (λ i. u ∷ v ∷ three i) ∙ (λ i. u ∷ v ∷ w ∷ four.2 i))

-- Three pieces with numbers say what they wish.
pub three_said : (text behind last u v : Bytes) (said : Said) → pieces_of text ≡ u ∷ pieces_of behind
    → pieces_of behind ≡ v ∷ pieces_of last → pieces_of last ≡ last ∷ []
    → ◌≡◌ {A = Option ℕ} (cond (is_counting u) (Some (min (number_written u) (2 ^ 64 - 1))) None) (Some said.u)
    → ◌≡◌ {A = Option ℕ} (cond (is_counting v) (Some (min (number_written v) (2 ^ 64 - 1))) None) (Some said.v)
    → ◌≡◌ {A = Option ℕ} (cond (is_whole last) (Some (min (number_written last) (2 ^ 64 - 1))) None) (Some said.wish)
    → IsSaid (pieces_of text) said
three_said text behind last u v said one two three first second third =
    let firsts = some_from (is_counting u) _ _ first in
    let seconds = some_from (is_counting v) _ _ second in
    let thirds = some_from (is_whole last) _ _ third in
    record {
      wished = record { u = number_written u; v = number_written v; wish = number_written last };
      told = rw (one, two, three, firsts.0, seconds.0, thirds.0) refl;
      u = firsts.1;
      v = seconds.1;
      wish = thirds.1;
    }

-- What holds of an option that is there, or is not.
pub some_of : {T : Type 0} (o : Option T) (N : Type 0) (P : T → Type 0) → MatchOption o N P → is_some o ≡ true
    → (x : T) × P x
some_of None N P holds is = absurd (true≢false (sym is))
some_of (Some x) N P holds is = (x, holds)

pub none_of : {T : Type 0} (o : Option T) (N : Type 0) (P : T → Type 0) → MatchOption o N P → is_some o ≡ false → N
none_of None N P holds off = holds
none_of (Some x) N P holds off = absurd (true≢false off)
