-- Facts on bytes that move between a program and its streams.
use Rattle.std.proofs.lemmas.Grind.{common_steps}
use Rattle.std.proofs.Common.{rules, ◌≡◌, ℕ, ◌+◌, ◌-◌, ◌≤◌, List, ◌++◌, Option, Some, None, length, take, drop, refl}
use Rattle.std.proofs.Common.{sym, ◌∙◌, ap, arith, append_assoc, length-drop, [], false, if◌then◌else◌, length-append}
use Rattle.std.proofs.Common.{slice_index, slice_index_or, inl, inr, map, suc, true, zero, ◌<◌, ◌==◌, ◌∷◌, get_or, ◌⊎◌}
use Rattle.std.proofs.lemmas.List.{take_rest, drop-drop, get_or-map, length-map, take_at, get_or-drop, take-append-drop}
use Rattle.std.proofs.lemmas.List.{drop-map, drop_at, take-map, get_or_append_left, map-append}
use Rattle.std.proofs.lemmas.Bool.{cases_Bool, false_from_ne_true, or_from, cases_lt}
use Rattle.{std.proofs.Math.Seq.take-add, std.proofs.Math.Seq.drop-cons, std.proofs.Math.Seq.get_or-append_seam}
use Rattle.{std.proofs.lemmas.List.Concat.flat_map-append, qm_io.specs.Ends.ends_from, qm_io.specs.WordLists.ReadsSome}
use Rattle.std.specs.{List.flat_map, List.list_any, Prelude.IfSome, Str.IsUtf8}
use Rattle.def_io.specs.{Moves.gave, Moves.took, Lines.byte_in_front, Lines.line_of, Lines.lines_of, Lines.pieces}
use Rattle.def_io.specs.{Lines.tail_of, Bytes.Bytes, Bytes.Lines, Words.IsReadAs, Words.IsReadAt, Words.IsWordAt}

-- A sink that took a prefix, and then a prefix of the rest, took a prefix.
pub took-split : (before : Option (List ℕ)) (k n : ℕ) (xs : List ℕ)
    → took (took before (take k xs)) (take n (drop k xs)) ≡ took before (take (k + n) xs)
took-split before k n = search (rules, append_assoc, take-add)

-- Where what is left stands after `n` bytes more.
left_place : (piece rest : List ℕ) (n : ℕ) → n ≤ length rest → rest ≡ drop (length piece - length rest) piece
    → (length piece - length rest) + n ≡ length piece - length (take (length rest - n) (drop n rest))
left_place piece rest n fits is = search (rules, length-drop)

-- What is left after `n` bytes more of the rest is again a rest.
pub rest_more : (piece rest : List ℕ) (n : ℕ) → n ≤ length rest → rest ≡ drop (length piece - length rest) piece
    → take (length rest - n) (drop n rest) ≡ drop (length piece - length (take (length rest - n) (drop n rest))) piece
rest_more piece rest n fits is = search (rules, take_rest, drop, drop-drop, left_place)

-- A sink that took `n` bytes more of the rest took the prefix up to what is left.
pub prefix_more : (before mid now : Option (List ℕ)) (piece rest : List ℕ) (n : ℕ) → n ≤ length rest
    → rest ≡ drop (length piece - length rest) piece → mid ≡ took before (take (length piece - length rest) piece)
    → now ≡ took mid (take n rest)
    → now ≡ took before (take (length piece - length (take (length rest - n) (drop n rest))) piece)
prefix_more before mid now piece rest n fits is prefix more = search (rules, took, take, took-split, left_place)

-- Two pieces that a source gave one after the other are one piece.
pub gave_more : (before mid now : Option (List ℕ)) (old piece new : List ℕ) → new ≡ old ++ piece
    → before ≡ gave old mid → mid ≡ gave piece now → before ≡ gave new now
gave_more before mid now old piece new h1 h2 h3 = search (rules, append_assoc)

-- Facts on the pieces of a text and on the positions after them.

-- One piece more where a byte stands in front of the first, and no more than that.
length-in_front : (b : ℕ) (ps : List (List ℕ)) → length (byte_in_front b ps) ≤ length ps + 1
length-in_front b [] = omega arith
length-in_front b (p ∷ ps) = omega arith

-- A text has no more pieces than bytes.
pub length-pieces : (bs : List ℕ) → length (pieces bs) ≤ length bs
length-pieces [] = omega arith
length-pieces (b ∷ bs) = grind (arith, length-pieces bs, length-in_front b (pieces bs))

-- Each piece has its end.
pub length-ends_from : (s : ℕ) (ps : List (List ℕ)) → length (ends_from s ps) ≡ length ps
length-ends_from s [] = refl
length-ends_from s (p ∷ ps) = ap suc (length-ends_from (s + length p) ps)

-- The pieces joined are the text.
pub flat-pieces : (bs : List ℕ) → flat_map (λ p. p) (pieces bs) ≡ bs
flat-pieces [] = refl
flat-pieces (b ∷ bs) = search (rules, flat-pieces bs)

-- The position where piece `i` begins.
abbrev pub begin : ℕ → List (List ℕ) → ℕ → ℕ
begin s ps i = slice_index (s ∷ ends_from s ps) i

-- No piece begins before the first.
pub begin-high : (s : ℕ) (ps : List (List ℕ)) (i : ℕ) → i ≤ length ps → s ≤ begin s ps i
begin-high s ps zero l = omega arith
begin-high s [] (suc i) l = omega arith
begin-high s (p ∷ ps) (suc i) l = omega (arith, begin-high (s + length p) ps i (omega arith))

drop-prefix : (p xs : List ℕ) (n k : ℕ) → n ≡ length p + k → drop n (p ++ xs) ≡ drop k xs
drop-prefix [] xs n k is = let same : n ≡ k = omega arith in ap (λ m. drop m xs) same
drop-prefix (b ∷ p) xs zero k is = absurd (omega arith)
drop-prefix (b ∷ p) xs (suc n) k is = drop-prefix p xs n k (omega arith)

-- From the position where a piece begins on stand that piece and all later ones.
pub drop-begin : (s k : ℕ) (ps : List (List ℕ)) (i : ℕ) → i ≤ length ps → s + k ≡ begin s ps i
    → drop k (flat_map (λ p. p) ps) ≡ flat_map (λ p. p) (drop i ps)
drop-begin s k ps zero l is = search rules
drop-begin s k [] (suc i) l is = absurd (omega arith)
drop-begin s k (p ∷ ps) (suc i) l is =
    let low : s + length p ≤ begin (s + length p) ps i = begin-high (s + length p) ps i (omega arith) in
    drop-prefix p (flat_map (λ p. p) ps) k (k - length p) (omega arith)
    ∙ drop-begin (s + length p) (k - length p) ps i (omega arith) (omega arith)

-- A piece ends where the next begins.
pub end-begin : (s : ℕ) (ps : List (List ℕ)) (i : ℕ) → i < length ps
    → slice_index (ends_from s ps) i ≡ begin s ps i + length (slice_index_or ps i [])
end-begin s [] i l = absurd (omega arith)
end-begin s (p ∷ ps) zero l = refl
end-begin s (p ∷ ps) (suc i) l = end-begin (s + length p) ps i (omega arith)

-- The bytes from where a piece begins, as many as it has, are that piece.
pub piece-cut : (bs : List ℕ) (i n : ℕ) → i < length (pieces bs) → n ≡ length (slice_index_or (pieces bs) i [])
    → take n (drop (begin 0 (pieces bs) i) bs) ≡ slice_index_or (pieces bs) i []
piece-cut bs i n l is =
    let at = ap (λ xs. drop (begin 0 (pieces bs) i) xs) (sym (flat-pieces bs))
    ∙ drop-begin 0 (begin 0 (pieces bs) i) (pieces bs) i (omega arith) (omega arith) in
    search (rules, take, drop-cons, pieces, take_at, drop)

-- No piece ends behind the text.
pub end-low : (s : ℕ) (ps : List (List ℕ)) (i : ℕ) → i ≤ length ps → begin s ps i ≤ s + length (flat_map (λ p. p) ps)
end-low s ps zero l = omega arith
end-low s [] (suc i) l = absurd (omega arith)
end-low s (p ∷ ps) (suc i) l = search (rules, length-append, end-low (s + length p) ps i (omega arith))

-- A byte that is no LF joins the piece behind it.
other : (b : ℕ) → ((b == 10) ≡ true → ⊥) → (ps : List (List ℕ))
    → (if b == 10 then (b ∷ []) ∷ ps else byte_in_front b ps) ≡ byte_in_front b ps
other b differs ps = rw (false_from_ne_true (b == 10) differs) refl

-- Where the first LF stands at `k`, the first piece ends behind it.
pub pieces-first : (bs : List ℕ) (k : ℕ) → k < length bs → (slice_index bs k == 10) ≡ true
    → ((j : ℕ) → j < k → (slice_index bs j == 10) ≡ true → ⊥) → pieces bs ≡ take (suc k) bs ∷ pieces (drop (suc k) bs)
pieces-first [] k l is none = absurd (omega arith)
pieces-first (b ∷ bs) zero l is none = rw is refl
pieces-first (b ∷ bs) (suc k) l is none = other b (none 0 (omega arith)) (pieces bs) ∙ ap (byte_in_front b)
    (pieces-first bs k (omega arith) is (λ j m. none (suc j) (omega arith)))

-- A text without LF that is not empty is one piece.
pub pieces-none : (bs : List ℕ) → 0 < length bs
    → ((j : ℕ) → j < length bs → (slice_index bs j == 10) ≡ true → ⊥) → pieces bs ≡ bs ∷ []
pieces-none [] l none = absurd (omega arith)
pieces-none (b ∷ []) l none = other b (none 0 (omega arith)) []
pieces-none (b ∷ c ∷ bs) l none = other b (none 0 (omega arith)) (pieces (c ∷ bs)) ∙ ap (byte_in_front b)
    (pieces-none (c ∷ bs) (omega arith) (λ j m. none (suc j) (omega arith)))

-- Each line has its piece.
pub piece-there : (bs : List ℕ) (i : ℕ) → i < length (lines_of bs) → i < length (pieces bs)
piece-there bs i l = omega (arith, length-map (pieces bs) line_of)

-- Each line has its end in the table.
pub end-there : (bs es : List ℕ) (i : ℕ) → es ≡ ends_from 0 (pieces bs) → i < length (lines_of bs) → i < length es
end-there bs es i cut l = omega (arith, piece-there bs i l, ap length cut, length-ends_from 0 (pieces bs))

-- A piece ends within the text.
pub end-within : (bs : List ℕ) (i : ℕ) → i < length (pieces bs) → slice_index (ends_from 0 (pieces bs)) i ≤ length bs
end-within bs i l = omega (arith, end-low 0 (pieces bs) (suc i) (omega arith), ap length (flat-pieces bs))

-- The line of a piece.
pub line-piece : (ps : List (List ℕ)) (i : ℕ) → i < length ps
    → line_of (slice_index_or ps i []) ≡ slice_index_or (map line_of ps) i []
line-piece ps i l = sym (get_or-map line_of ps i [] [] l)

-- No piece begins behind the text.
pub begin-within : (bs : List ℕ) (i : ℕ) → i < length (pieces bs) → begin 0 (pieces bs) i ≤ length bs
begin-within bs i l = omega (arith, end-low 0 (pieces bs) i (omega arith), ap length (flat-pieces bs))

-- The bytes from where a piece begins on are the tail.
pub tail-cut : (bs : List ℕ) (i : ℕ) → i < length (pieces bs) → drop (begin 0 (pieces bs) i) bs ≡ tail_of i bs
tail-cut bs i l = ap (drop (begin 0 (pieces bs) i)) (sym (flat-pieces bs)) ∙ drop-begin 0 (begin 0 (pieces bs) i)
    (pieces bs) i (omega arith) (omega arith)

-- Where no byte before `k` is a LF, the prefix up to `k` has none.
pub none_in_front : (bs : List ℕ) (k : ℕ) → ((j : ℕ) → j < k → (slice_index bs j == 10) ≡ true → ⊥)
    → list_any (λ b. b == 10) (take k bs) ≡ false
none_in_front bs zero none = refl
none_in_front [] (suc k) none = refl
none_in_front (b ∷ bs) (suc k) none = or_from _ _ (false_from_ne_true (b == 10) (none 0 (omega arith)))
    (none_in_front bs k (λ j l. none (suc j) (omega arith)))

-- Texts of the first pieces and of the last ones.

-- A byte in front of the first piece is in front of all bytes, of the first pieces, and of none of the last.
front_flat : (b : ℕ) (ps : Lines) (i : ℕ) → flat_map (λ p. p) (take (suc i) (byte_in_front b ps))
    ≡ b ∷ flat_map (λ p. p) (take (suc i) ps)
front_flat b ps = search rules

front_take : (b : ℕ) (ps : Lines) (i : ℕ) → byte_in_front b (take (suc i) ps) ≡ take (suc i) (byte_in_front b ps)
front_take b ps = search rules

first_pieces : (bs : Bytes) (i : ℕ) → pieces (flat_map (λ p. p) (take i (pieces bs))) ≡ take i (pieces bs)
first_pieces bs zero = refl
first_pieces [] (suc i) = refl
first_pieces (b ∷ bs) (suc i) =
    search (rules, cases_Bool, inl, inr, front_flat, pieces, front_take, first_pieces bs i, first_pieces bs (suc i))

last_pieces : (bs : Bytes) (i : ℕ) → pieces (tail_of i bs) ≡ drop i (pieces bs)
last_pieces bs zero = ap pieces (flat-pieces bs)
last_pieces [] (suc i) = refl
last_pieces (b ∷ bs) (suc i) = search (rules, last_pieces bs i, last_pieces bs (suc i))

-- The lines from line i on.
pub last_lines : (bs : Bytes) (i : ℕ) → lines_of (tail_of i bs) ≡ drop i (lines_of bs)
last_lines bs i = ap (map line_of) (last_pieces bs i) ∙ sym (drop-map line_of i (pieces bs))

-- A text is what stands from its first line on.
pub whole_tail : (bs : Bytes) → bs ≡ tail_of 0 bs
whole_tail bs = sym (flat-pieces bs)

-- A text has no more lines than bytes.
pub lines_few : (bs : Bytes) → length (lines_of bs) ≤ length bs
lines_few bs = omega (arith, length-map (pieces bs) line_of, length-pieces bs)

-- A text is cut where its rest begins.
module _ (bs rest : Bytes) (i : ℕ) (at : rest ≡ tail_of i bs) where
  both : bs ≡ flat_map (λ p. p) (take i (pieces bs)) ++ tail_of i bs
  both = sym (flat-pieces bs) ∙ (ap (λ (ps : Lines). flat_map (λ p. p) ps) (sym (take-append-drop i (pieces bs)))
      ∙ flat_map-append (λ p. p) (take i (pieces bs)) (drop i (pieces bs)))

  sizes : length bs ≡ length (flat_map (λ p. p) (take i (pieces bs))) + length rest
  sizes = search (rules, length-append, both)

  pub rest_low : length rest ≤ length bs
  rest_low = omega (arith, sizes)

  pub rest_is : drop (length bs - length rest) bs ≡ tail_of i bs
  rest_is = search (rules, both, drop_at, sizes)

  -- The lines before it are the first ones.
  pub first_lines : lines_of (take (length bs - length rest) bs) ≡ take i (lines_of bs)
  first_lines = search (rules, both, take_at, sizes, first_pieces, take-map)

  -- Where nothing is left there is no further line.
  pub cut_ended : rest ≡ [] → length (lines_of bs) ≤ i
  cut_ended none = omega (
    arith,
    length-drop i (lines_of bs),
    ap length (sym (last_lines bs i) ∙ (ap lines_of (sym at) ∙ ap lines_of none)),
  )

  -- Else the next line is the first of the rest.
  module _ (line behind : Bytes) (first : lines_of rest ≡ line ∷ lines_of behind) (more : behind ≡ tail_of 1 rest) where
    next : drop i (lines_of bs) ≡ line ∷ lines_of behind
    next = sym (last_lines bs i) ∙ (ap lines_of (sym at) ∙ first)

    pub cut_there : i < length (lines_of bs)
    cut_there = omega (arith, length-drop i (lines_of bs), ap length next)

    pub cut_is : line ≡ slice_index_or (lines_of bs) i []
    cut_is = grind (arith, common_steps, next, get_or-drop)

    pub cut_behind : behind ≡ tail_of (i + 1) bs
    cut_behind = more ∙ (ap (tail_of 1) at ∙ ap (λ (ps : Lines). flat_map (λ p. p) ps) (ap (λ (ps : Lines). drop 1 ps)
        (last_pieces bs i) ∙ drop-drop 1 i (pieces bs)))

-- Reading words one by one.

-- A word that fits is read as it is where it is text, and else as the empty word.
pub word_read : (most : ℕ) (given : Option Lines) (i : ℕ) (bytes word : Bytes) → IsWordAt given i bytes
    → length bytes ≤ most → (IsUtf8 bytes → word ≡ bytes) → (¬ IsUtf8 bytes → word ≡ []) → IsReadAt most given i word
word_read most None i bytes word is fits text other = tt
word_read most (Some given) i bytes word is fits text other = search rules

-- One word more.
pub reads_more : (most : ℕ) (given : Option Lines) (i : ℕ) (words : Lines) (word : Bytes) → ReadsSome most given i words
    → IsReadAt most given i word → ReadsSome most given (i + 1) (words ++ word ∷ [])
reads_more most None i words word read is = tt
reads_more most (Some given) i words word read is = record {
  many = omega (arith, read.many, length-append words (word ∷ []));
  within = omega (arith, is.0);
  each = λ k l. by_place k (cases_lt k i) l;
}
  where
    last : get_or (words ++ word ∷ []) i [] ≡ word
    last = ap (λ n. get_or (words ++ word ∷ []) n []) (sym read.many) ∙ get_or-append_seam words word [] []

    by_place : (k : ℕ) → (k < i) ⊎ (i ≤ k) → k < i + 1
        → IsReadAs most (get_or given k []) (get_or (words ++ word ∷ []) k [])
    by_place k (inl l) _ = rw (get_or_append_left words (word ∷ []) [] k (omega (arith, l, read.many))) (read.each k l)
    by_place k (inr high) l = let e : k ≡ i = omega (arith, high, l) in rw (e, last) is.1

-- One word more in a list of texts.
pub reads_pushed : {X : Type 0} (f : X → Bytes) (most : ℕ) (given : Option Lines) (i : ℕ) (words more : List X)
    (found : Option X) (word : X)
    → ReadsSome most given i (map f words) → found ≡ Some word → IfSome found (λ w. IsReadAt most given i (f w))
    → more ≡ words ++ word ∷ [] → ReadsSome most given (i + 1) (map f more)
reads_pushed f most given i words more found word read some is pushed =
    rw (pushed, map-append f words (word ∷ [])) (reads_more most given i (map f words) (f word) read (rw some at is))
