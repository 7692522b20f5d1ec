-- Corners and the indices between their slashes.
use Rattle.def_text.specs.declared.index.Index.{TheVariants.Vertex, TheVariants.Out}
use Rattle.std.specs.List.{before_first, list_all, list_any, position_or_len, slice_split}
use Rattle.std.proofs.lemmas.{Bool.Decides.nat_tests, Bool.cases_Bool, Bool.false≢true, Grind.common_steps}
use Rattle.std.proofs.Common.{rules, List, None, Some, arith, cond, drop, eqb, false, length, refl, true, ◌&&◌, ◌||◌, ℕ}
use Rattle.std.proofs.Common.{[], ap, leb, ltb, min, suc, ◌+◌, ◌-◌, ◌<◌, ◌^◌, ◌∷◌, ◌≡◌, ◌≤◌}
use Rattle.def_text.specs.Digits.{is_negative, is_number, is_signed, number_written, unsigned}
use Rattle.def_text.specs.Corner.{are_indices, index_of, is_corner_word, is_optional, is_slash, used_index}
use Rattle.qm_obj.specs.{Indices.parts_behind, Indices.corner_of, Indices.clamped, Indices.named}
use Rattle.{std.specs.Char.is_ascii_digit, qm_obj.proofs.TailLemmas.none_from_all, qm_obj.proofs.TailLemmas.all_before}

-- A word is cut at its first slash.
pub split_word : (word : List ℕ) → slice_split is_slash word ≡ before_first is_slash word
    ∷ parts_behind (drop (position_or_len is_slash word) word)
split_word [] = refl
split_word (b ∷ bs) =
    let e : 1 + position_or_len is_slash bs ≡ suc (position_or_len is_slash bs) = omega arith in
    grind (arith, e, split_word bs)

-- A word with a slash is no index.
no_digits : (word : List ℕ) → list_any is_slash word ≡ true → list_all is_ascii_digit word ≡ false
no_digits word is = search (rules, none_from_all)

-- The parts of a word without and with a slash.
pub behind_none : (word : List ℕ) → list_any is_slash word ≡ false → slice_split is_slash word ≡ word ∷ []
behind_none [] none = refl
behind_none (b ∷ bs) none = grind (arith, behind_none bs)

behind_some : (word : List ℕ) → list_any is_slash word ≡ true → leb (length (slice_split is_slash word)) 1 ≡ false
behind_some [] is = absurd (false≢true is)
behind_some (b ∷ bs) is = grind (arith, nat_tests, split_word bs, behind_some bs)

-- The last part of a corner, with its slash, and the two last parts.
pub last_part : (tail : List ℕ) → (leb (length (parts_behind tail)) 1 && list_all is_optional (parts_behind tail))
    ≡ is_optional (drop 1 tail)
last_part [] = refl
last_part (_ ∷ []) = refl
last_part (_ ∷ b ∷ bs) =
    search (rules, behind_some (b ∷ bs), behind_none (b ∷ bs), cases_Bool (list_any is_slash (b ∷ bs)), no_digits bs)

pub two_parts : (tail : List ℕ) → (leb (length (parts_behind tail)) 2 && list_all is_optional (parts_behind tail))
    ≡ (is_optional (before_first is_slash (drop 1 tail))
    && (leb (length (parts_behind (drop (position_or_len is_slash (drop 1 tail)) (drop 1 tail)))) 1
    && list_all is_optional (parts_behind (drop (position_or_len is_slash (drop 1 tail)) (drop 1 tail)))))
two_parts [] = refl
two_parts (_ ∷ word) = rw (split_word word) (grind (arith, nat_tests))

-- A corner by its first index and what stands behind it.
pub corner_parts : (word : List ℕ) → is_corner_word word ≡ (is_signed (before_first is_slash word) &&
    (leb (length (parts_behind (drop (position_or_len is_slash word) word))) 2 && list_all is_optional
    (parts_behind (drop (position_or_len is_slash word) word))))
corner_parts word = ap are_indices (split_word word)

-- The line that an index names, by its clamped number.
pub named_count : (before : ℕ) (word : List ℕ) → before < 2 ^ 32 → let n = min (number_written (unsigned word))
    (2 ^ 64 - 1) in cond (eqb n 0 || (is_negative word && ltb before n)) 0 (cond (is_negative word) (before + 1 - n) n)
    ≡ named before word
named_count before word small = grind (arith, nat_tests)

-- An index by the line that it names.
pub index_named : (all before : ℕ) (word : List ℕ) → before ≤ all → all < 2 ^ 32 → is_signed word ≡ true
    → cond (eqb (named before word) 0 || ltb all (named before word)) Out (Vertex (named before word))
    ≡ index_of all before word
index_named all before word le small form = search rules

-- A number alone is a corner, and its index is itself, with no sign and no slash.
pub plain_index : (word : List ℕ) → is_number word ≡ true → (is_corner_word word ≡ true) × (used_index word ≡ word)
    × (unsigned word ≡ word) × (is_negative word ≡ false)
plain_index [] is = absurd (false≢true is)
plain_index (b ∷ bs) all =
    grind (arith, common_steps, none_from_all is_ascii_digit is_slash, behind_none, all_before is_slash)

-- Its line is the number.
pub plain_corner : (before : ℕ) (word : List ℕ) (k corner : ℕ)
    → cond (is_number word) (Some (min (number_written word) (2 ^ 64 - 1))) None ≡ Some k → corner ≡ clamped k
    → Some corner ≡ cond (is_corner_word word) (Some (corner_of before word)) None
plain_corner before word k corner is clamps = grind (arith, nat_tests, plain_index word)
