-- Numbers read digit by digit.
use Rattle.std.proofs.Common.{rules, ◌≡◌, ℕ, ◌+◌, ◌-◌, ◌*◌, ◌^◌, ◌<◌, ◌≤◌, min, true, cond, not, ◌&&◌, eqb, List, []}
use Rattle.std.proofs.Common.{◌∷◌, length, take, map, get_or, ap, ◌∙◌, arith, Some, None, inl, inr}
use Rattle.std.proofs.lemmas.{List.take_more, List.map_push, List.length-map, Bool.cases_lt, Bool.and_parts}
use Rattle.std.proofs.{lemmas.Int.Digits.number_push, lemmas.Int.Digits.number_lt, Math.Nat.pow-le-pow_right}
use Rattle.std.specs.{Char.is_ascii_digit, Int.Digits.number_from_digits, Int.Digits.AllBelowBase, List.list_all}
use Rattle.def_text.specs.Digits.{is_number, number_written}

-- The values of digits.
abbrev pub values : List ℕ → List ℕ
values ds = map (λ d. d - 48) ds

-- A digit is one of ten bytes.
pub digit_small : (d : ℕ) → is_ascii_digit d ≡ true → (48 ≤ d) × (d ≤ 57)
digit_small d is = search rules

-- Their values are below ten.
values_below : (ds : List ℕ) → list_all is_ascii_digit ds ≡ true → AllBelowBase 10 (values ds)
values_below [] all = tt
values_below (d ∷ ds) all =
    let parts : (is_ascii_digit d ≡ true) × (list_all is_ascii_digit ds ≡ true) = and_parts _ _ all in
    (omega (arith, (digit_small d parts.0).1), values_below ds parts.1)

-- Digits write a number below the power of ten of their count.
pub number_small : (ds : List ℕ) → list_all is_ascii_digit ds ≡ true → number_written ds < 10 ^ length ds
number_small ds all = rw (length-map ds (λ d. d - 48)) at (number_lt 10 (values ds) (values_below ds all))

-- One digit more.
pub number_more : (word : List ℕ) (i : ℕ) → i < length word → number_written (take (i + 1) word)
    ≡ number_written (take i word) * 10 + (get_or word i 0 - 48)
number_more word i l = ap number_written (take_more word i 0 l) ∙ ap (number_from_digits 10)
    (map_push (λ d. d - 48) (take i word) (get_or word i 0)) ∙ number_push 10 (map (λ d. d - 48) (take i word))
    (get_or word i 0 - 48)

-- A clamped number takes one digit more.
pub clamped_more : (n d clamp : ℕ) → min (min (min n clamp * 10) clamp + d) clamp ≡ min (n * 10 + d) clamp
clamped_more n d clamp = elim (cases_lt n clamp) [ inl less ↦ omega arith | inr more ↦ omega arith ]

-- A number is a word that is not empty and has digits alone.
pub number_all : (word : List ℕ) → is_number word ≡ (not (eqb (length word) 0) && list_all is_ascii_digit word)
number_all word = search rules

-- At most 18 digits need no clamp, and fewer of them leave room for one more.
pub short_unclamped : (word : List ℕ) → length word ≤ 18 → cond (is_number word) (Some (number_written word)) None
    ≡ cond (is_number word) (Some (min (number_written word) (2 ^ 64 - 1))) None
short_unclamped word short = search (rules, number_small)

pub taken_small : (word : List ℕ) (i : ℕ) → i < length word → length word ≤ 18 → list_all is_ascii_digit (take i word)
    ≡ true → number_written (take i word) < 10 ^ 17
taken_small word i there short all = search (rules, number_small, pow-le-pow_right)
