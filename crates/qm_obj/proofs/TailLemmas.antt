-- Lists that a loop changes position by position.
use Rattle.std.proofs.lemmas.List.Sums.{AllPass-from_list_all, sum_by-append, sum_by-cons, list_all-from_AllPass}
use Rattle.std.proofs.lemmas.List.{take-append-drop, append-nil, Folds.list_any_none, Folds.list_any_at}
use Rattle.std.proofs.lemmas.List.{drop-set-lt, get_or-drop, length-drop, length-take, take_more_set, length-append}
use Rattle.std.proofs.lemmas.List.{drop-drop, drop-take, map_more, get_or_push, take_more, take_rest, take_at}
use Rattle.std.specs.List.{before_first, list_all, count_by, list_any}
use Rattle.std.proofs.lemmas.{Grind.drop_more_same, Bool.false_from_ne_true, Bool.both_ways, Grind.common_steps}
use Rattle.std.proofs.Common.{rules, ◌≡◌, Bool, true, List, ◌++◌, length, take, drop, get_or, refl, arith, cond, false}
use Rattle.std.proofs.Common.{ℕ, ◌+◌, ◌-◌, ◌<◌, ◌≤◌, [], ◌∷◌, set, map, ap, ◌∙◌, eqb}
use Rattle.def_io.specs.{Lines.without_last, Lines.lines_of, Lines.line_of, Lines.pieces, Bytes.Bytes, Bytes.Lines}
use Rattle.{std.specs.Prelude.slice_range, std.proofs.Math.Seq.take-add, def_feed.specs.Feed.is_line_feed}

-- Lists that agree from k on have one element at k.
pub at_back : {X : Type 0} (xs ys : List X) (k : ℕ) (d : X) → drop k xs ≡ drop k ys → get_or xs k d ≡ get_or ys k d
at_back xs ys k d same = grind (arith, get_or-drop k xs 0 d, get_or-drop k ys 0 d)

-- Lists that agree from k on agree from the next on, also after a write at k or before.
pub back_more : {X : Type 0} (xs ys : List X) (k i : ℕ) (x : X) → i ≤ k → drop k xs ≡ drop k ys
    → drop (k + 1) (set xs i x) ≡ drop (k + 1) ys
back_more xs ys k i x le same = drop-set-lt (k + 1) xs i x (omega arith) ∙ drop_more_same xs ys k same

-- A map in position, one element further.
pub mapped_more : {X : Type 0} (f : X → X) (old new : List X) (i : ℕ) (d x : X) → i < length old
    → length new ≡ length old → x ≡ f (get_or old i d)
    → take i new ≡ map f (take i old) → take (i + 1) (set new i x) ≡ map f (take (i + 1) old)
mapped_more f old new i d x there size is prefix = search (rules, take_more_set, map_more)

-- What each element of a list passes, the one at a position passes.
pub passes_at : {X : Type 0} (p : X → Bool) (xs : List X) (i : ℕ) (d : X) → list_all p xs ≡ true → i < length xs
    → p (get_or xs i d) ≡ true
passes_at p xs i d all there = AllPass-from_list_all p xs all i d there

-- What stands behind the prefix of a part of a list.
pub range_drop : {X : Type 0} (xs : List X) (a k b : ℕ) → a + k ≤ b → drop k (slice_range xs a b)
    ≡ slice_range xs (a + k) b
range_drop xs a k b le = grind (arith, drop-take k (b - (a + k)) (drop a xs), drop-drop k a xs)

-- How long a part of a list is.
pub length-range : {X : Type 0} (xs : List X) (a b : ℕ) → a ≤ b → b ≤ length xs → length (slice_range xs a b) ≡ b - a
length-range xs a b le within = omega (arith, length-take (b - a) (drop a xs), length-drop a xs)

-- The parts of nothing are nothing.
pub parts_none : {X : Type 0} (xs ys : List X) → xs ++ ys ≡ [] → (xs ≡ []) × (ys ≡ [])
parts_none [] ys none = (refl, none)
parts_none (x ∷ xs) ys none = cc none

-- What holds of each element that passes one test, or two, is what passes another; what none passes, all stand before.
pub all_from : {X : Type 0} (p q : X → Bool) → ((x : X) → p x ≡ true → q x ≡ true) → (xs : List X)
    → list_all p xs ≡ true → list_all q xs ≡ true
all_from p q to xs all = list_all-from_AllPass q xs (λ k d l. to (get_or xs k d) (passes_at p xs k d all l))

pub none_from_all : {X : Type 0} (p q : X → Bool) → ((x : X) → p x ≡ true → q x ≡ false) → (xs : List X)
    → list_all p xs ≡ true → list_any q xs ≡ false
none_from_all p q to xs all = list_any_none q xs (λ k d l. to (get_or xs k d) (passes_at p xs k d all l))

pub all_before : (p : ℕ → Bool) (xs : Bytes) → list_any p xs ≡ false → before_first p xs ≡ xs
all_before p [] none = refl
all_before p (x ∷ xs) none = grind (arith, common_steps, all_before p xs)

-- Physical lines of a text whose last bytes are not ended.

-- A line feed is taken off, and nothing where there is none.
fed_last : (prefix : Bytes) → without_last 10 (prefix ++ 10 ∷ []) ≡ prefix
fed_last prefix = grind (arith, length-append prefix (10 ∷ []), get_or_push prefix 10 0, take_at prefix (10 ∷ []))

-- A byte that does not stand in a line is not taken off.
pub same_last : (byte : ℕ) (line : Bytes) → list_any (λ b. eqb b byte) line ≡ false → without_last byte line ≡ line
same_last byte [] none = grind arith
same_last byte (b ∷ bs) none = search (rules, false_from_ne_true, both_ways, list_any_at)

-- The first piece of a text begins with its bytes before the first line feed.
opens : (prefix more : Bytes) → list_any is_line_feed prefix ≡ false → 0 < length prefix
    → pieces (prefix ++ more) ≡ (prefix ++ get_or (pieces more) 0 []) ∷ drop 1 (pieces more)
opens [] more none some = absurd (omega arith)
opens (b ∷ []) more none some = grind arith
opens (b ∷ c ∷ cs) more none some = grind (arith, opens (c ∷ cs) more)

-- A line that ends.
pub lines_fed : (prefix more : Bytes) → list_any is_line_feed prefix ≡ false → lines_of (prefix ++ 10 ∷ more)
    ≡ line_of prefix ∷ lines_of more
lines_fed prefix more none = search (rules, by_prefix, fed_last, same_last)
  where
    by_prefix : (prefix : Bytes) → list_any is_line_feed prefix ≡ false
        → pieces (prefix ++ 10 ∷ more) ≡ (prefix ++ 10 ∷ []) ∷ pieces more
    by_prefix [] none = refl
    by_prefix (b ∷ bs) none = grind (arith, by_prefix bs)

-- The first line of a text with these bytes in front, and the lines behind it.
pub first_line : (prefix more : Bytes) → list_any is_line_feed prefix ≡ false → 0 < length prefix
    → (line : Bytes) × (rest : Lines) × (lines_of (prefix ++ more) ≡ line ∷ rest) × (length prefix ≤ length line + 1)
first_line prefix more none some =
    (_, _, ap (map line_of) (opens prefix more none some), kept (get_or (pieces more) 0 []))
  where
    kept : (behind : Bytes) → length prefix ≤ length (line_of (prefix ++ behind)) + 1
    kept behind = grind (arith, common_steps, same_last 10 prefix, length-append prefix behind, append-nil prefix)

-- A text without line feed is one line, where it is not empty.
pub lines_open : (prefix : Bytes) → list_any is_line_feed prefix ≡ false → 0 < length prefix
    → lines_of prefix ≡ line_of prefix ∷ []
lines_open prefix none some = rw append-nil at (ap (map line_of) (opens prefix [] none some))

-- How many line feeds there are.
pub count_none : (xs : Bytes) → list_any is_line_feed xs ≡ false → count_by is_line_feed xs ≡ 0
count_none [] none = refl
count_none (x ∷ xs) none = grind (arith, sum_by-cons (λ b. cond (eqb b 10) 1 0) x xs, count_none xs)

pub count_append : (xs ys : Bytes) → count_by is_line_feed (xs ++ ys) ≡ count_by is_line_feed xs + count_by is_line_feed
    ys
count_append xs ys = sum_by-append (λ b. cond (eqb b 10) 1 0) xs ys

-- The prefix of what is left of a piece up to a line feed, and the line feed.
pub prefix_fed : (piece : Bytes) (at end : ℕ) → 0 < end → end ≤ length (take (length piece - at) (drop at piece))
    → get_or (take (length piece - at) (drop at piece)) (end - 1) 0 ≡ 10
    → take (at + end) piece ≡ take at piece ++ (take (at + end - 1 - at) (drop at piece) ++ 10 ∷ [])
prefix_fed piece at end some within feed = search (rules, take_rest, take-add, take_more)

-- The prefix of a piece and what is left of it.
pub prefix_rest : (piece : Bytes) (at : ℕ) → take at piece ++ take (length piece - at) (drop at piece) ≡ piece
prefix_rest piece at = ap (λ xs. take at piece ++ xs) (take_rest piece at) ∙ take-append-drop at piece
