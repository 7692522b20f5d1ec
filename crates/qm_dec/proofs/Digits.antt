-- The number that digits write, digit by digit and in parts.
use Rattle.std.proofs.lemmas.Grind.{common_steps}
use Rattle.std.proofs.Common.{rules, ◌≡◌, ℕ, ◌+◌, ◌-◌, ◌*◌, ◌^◌, ◌<◌, ◌≤◌, true, List, [], ◌∷◌, ◌++◌, length, take}
use Rattle.std.proofs.Common.{drop, get_or, sym, ap, ◌∙◌, arith, zero, suc, min, inl, inr, false, ◌&&◌, eqb, refl, ℤ}
use Rattle.std.proofs.Common.{◌/◌, pos, negsuc, ◌-ℤ◌, ◌+ℤ◌, neg_ℤ, cond, ltb, subst}
use Rattle.std.proofs.{lemmas.Int.Digits.number_after_append, lemmas.List.Folds.list_all-append, lemmas.Int.ints}
use Rattle.std.proofs.lemmas.List.{map-append, map_push, take_more, take-append-drop, length-drop, length-map}
use Rattle.std.proofs.lemmas.Bool.{and_parts, and_from, cases_lt, false≢true, lt-ltb, le-ltb}
use Rattle.std.proofs.Math.Nat.{pow-suc, mul-le-mul_right, pow-le-pow_right, pow-succ', div-eq_of_lt, div-eq_of_lt-le}
use Rattle.def_text.specs.Digits.{number_written, is_number, unsigned}
use Rattle.def_text.specs.Decimal.{is_exponent, power, scaled}
use Rattle.std.specs.{Int.Digits.number_from_digits, Int.Digits.number_from_digits_after, Char.is_ascii_digit}
use Rattle.qm_scan.proofs.Numbers.{values, number_small, digit_small}
use Rattle.{std.proofs.lemmas.List.Sums.AllPass-from_list_all, std.specs.List.list_all, qm_dec.specs.Sizes.clamped}

-- what is made of a clamped number by a factor and a summand is clamped like what is made of the number
pub clamp_linear : (n q r : ℕ) → 1 ≤ q → clamped (clamped n * q + r) ≡ clamped (n * q + r)
clamp_linear n q r one = search rules

pub clamp_scaled : (n q : ℕ) → 1 ≤ q → clamped (clamped n * q) ≡ clamped (n * q)
clamp_scaled n q one = ap clamped (omega arith) ∙ clamp_linear n q 0 one ∙ ap clamped (omega arith)

pub ten_power : (k : ℕ) → 1 ≤ 10 ^ k
ten_power k = pow-le-pow_right {n = 10} (omega arith) {i = 0} {j = k} (omega arith)

-- one step of the growth by powers of ten
pub grown_more : (v p : ℕ) → 0 < p → clamped (min (v * 10) (10 ^ 15) * 10 ^ (p - 1)) ≡ clamped (v * 10 ^ p)
grown_more v p l =
    let e : suc (p - 1) ≡ p = omega arith in
    clamp_scaled (v * 10) (10 ^ (p - 1)) (ten_power (p - 1))
    ∙ ap clamped (omega (arith, ap (λ x. v * x) (sym (pow-suc 10 (p - 1)) ∙ ap (λ k. 10 ^ k) e)))

-- any two powers of ten that are great enough
pub both_far : (n i j : ℕ) → 15 ≤ i → 15 ≤ j → clamped (n * 10 ^ i) ≡ clamped (n * 10 ^ j)
both_far zero i j a b = ap clamped (omega arith)
both_far (suc n) i j a b =
    let far = λ (k : ℕ) (l : 15 ≤ k). pow-le-pow_right {n = 10} (omega arith) {i = 15} {j = k} l in
    search rules

-- digits behind a number shift it and add their own
pub after_is : (n : ℕ) (vs : List ℕ) → number_from_digits_after 10 n vs ≡ n * 10 ^ length vs + number_from_digits 10 vs
after_is n [] = omega arith
after_is n (v ∷ vs) = let power = ap (λ x. n * x) (pow-suc 10 (length vs)) in
    omega (arith, after_is (n * 10 + v) vs, after_is (0 * 10 + v) vs)

-- one digit more of a loop
pub after_more : (n : ℕ) (ds : List ℕ) (i : ℕ) → i < length ds → number_from_digits_after 10 n
    (values (take (i + 1) ds)) ≡ number_from_digits_after 10 n (values (take i ds)) * 10 + (get_or ds i 0 - 48)
after_more n ds i l = grind (arith, common_steps, values, take_more, map_push, take, number_after_append)

-- digits in two parts
pub number_append : (xs ys : List ℕ) → number_written (xs ++ ys) ≡ number_from_digits_after 10 (number_written xs)
    (values ys)
number_append xs ys = search (rules, map-append, number_after_append, values)

-- a loop over one run of digits and then another, which may take a clamped number for the number
pub two_parts : (xs ys : List ℕ) (a b : ℕ) → a ≡ clamped (number_written xs)
    → b ≡ clamped (number_from_digits_after 10 a (values ys)) → b ≡ clamped (number_written (xs ++ ys))
two_parts xs ys a b p q = search (rules, after_is, ten_power, number_append)

-- digits before a place, and from it on
pub digits_split : (ds : List ℕ) (i : ℕ) → list_all is_ascii_digit ds ≡ true
    → (list_all is_ascii_digit (take i ds) ≡ true) × (list_all is_ascii_digit (drop i ds) ≡ true)
digits_split ds i all = and_parts _ _ (sym (list_all-append is_ascii_digit (take i ds) (drop i ds))
    ∙ ap (list_all is_ascii_digit) (take-append-drop i ds) ∙ all)

pub digits_both : (xs ys : List ℕ) → list_all is_ascii_digit xs ≡ true → list_all is_ascii_digit ys ≡ true
    → list_all is_ascii_digit (xs ++ ys) ≡ true
digits_both xs ys a b = list_all-append is_ascii_digit xs ys ∙ and_from _ _ a b

-- two runs of digits, not both empty, are a number
pub number_both : (xs ys : List ℕ) → 0 < length xs + length ys → is_number (xs ++ ys)
    ≡ (list_all is_ascii_digit xs && list_all is_ascii_digit ys)
number_both [] [] l = absurd (omega arith)
number_both [] (y ∷ ys) l = refl
number_both (x ∷ xs) ys l = list_all-append is_ascii_digit (x ∷ xs) ys

pub number_parts : (xs ys : List ℕ) → is_number (xs ++ ys) ≡ true → (list_all is_ascii_digit xs ≡ true)
    × (list_all is_ascii_digit ys ≡ true)
number_parts [] [] is = absurd (false≢true is)
number_parts [] (y ∷ ys) is = (refl, is)
number_parts (x ∷ xs) ys is = and_parts _ _ (sym (list_all-append is_ascii_digit (x ∷ xs) ys) ∙ is)

-- an exponent by what stands behind its mark
pub exponent_is : (xs : List ℕ) → 0 < length xs → is_exponent xs ≡ is_number (unsigned (drop 1 xs))
exponent_is xs l = grind (arith)

pub some_from : (xs : List ℕ) → false ≡ eqb (length xs) 0 → 0 < length xs
some_from xs e = grind (arith)

-- A number of digits times a negative power of ten, rounded: the digits that stay, and one more where the next is at
-- least 5.

-- the half of the last kept place decides
rounding : (a d b t y : ℕ) → b < t → d ≤ 9 → y ≡ d + 48 → (2 * ((a * 10 + d) * t + b) + 10 * t) / (2 * (10 * t))
    ≡ a + cond (ltb y 53) 0 1
rounding a d b t y low nine is =
    let m : d * t ≤ 9 * t = mul-le-mul_right t nine in elim (cases_lt y 53) [
      | inl l ↦ let n : d * t ≤ 4 * t = mul-le-mul_right t (omega arith) in
          rw (lt-ltb y 53 l) (div-eq_of_lt-le (2 * (10 * t)) (omega arith) (omega arith))
      | inr g ↦ let n : 5 * t ≤ d * t = mul-le-mul_right t (omega arith) in
          rw (le-ltb y 53 g) (div-eq_of_lt-le (2 * (10 * t)) (omega arith) (omega arith))
    ]

-- all digits but the last k + 1, and one more where the first of these is at least 5
pub cut_exact : (ds : List ℕ) (i k : ℕ) → list_all is_ascii_digit ds ≡ true → i + suc k ≡ length ds
    → scaled (number_written ds) (negsuc k) ≡ number_written (take i ds) + cond (ltb (get_or ds i 0) 53) 0 1
cut_exact ds i k all e =
    let d = digit_small (get_or ds i 0) (AllPass-from_list_all is_ascii_digit ds all i 0 (omega arith)) in
    let front = take (i + 1) ds in
    let behind = drop (i + 1) ds in
    let long : length behind ≡ k = length-drop (i + 1) ds ∙ omega arith in
    ap (λ n. (2 * n + 10 ^ suc k) / (2 * 10 ^ suc k)) (ap number_written (sym (take-append-drop (i + 1) ds))
    ∙ number_append front behind ∙ after_is (number_written front) (values behind)
    ∙ ap (λ n. number_written front * 10 ^ n + number_written behind) (length-map behind (λ x. x - 48) ∙ long)
    ∙ ap (λ n. n * 10 ^ k + number_written behind) (after_more 0 ds i (omega arith)))
    ∙ ap (λ p. (2 * ((number_written (take i ds) * 10 + (get_or ds i 0 - 48)) * 10 ^ k + number_written behind) + p) /
    (2 * p)) (pow-succ' 10 k) ∙ rounding (number_written (take i ds)) (get_or ds i 0 - 48) (number_written behind)
    (10 ^ k) (get_or ds i 0) (subst (λ (n : ℕ). number_written behind < 10 ^ n) long
    (number_small behind (digits_split ds (i + 1) all).1)) (omega (arith, d)) (omega (arith, d))

-- fewer digits than are cut: less than a half
pub cut_zero : (ds : List ℕ) (k : ℕ) → list_all is_ascii_digit ds ≡ true → length ds ≤ k
    → scaled (number_written ds) (negsuc k) ≡ 0
cut_zero ds k all l = div-eq_of_lt (omega (
  arith,
  pow-le-pow_right {n = 10} (omega arith) {i = length ds} {j = k} l,
  number_small ds all,
  pow-suc 10 k,
))

-- a power of ten below any that matters, and one above
pub power_down : (ds : List ℕ) (f p : ℕ) → list_all is_ascii_digit ds ≡ true → length ds ≤ 64
    → clamped (scaled (number_written ds) (pos 6 -ℤ pos (f + min p 1000)))
    ≡ clamped (scaled (number_written ds) ((neg_ℤ (pos p) +ℤ pos 6) -ℤ pos f))
power_down ds f p all short = let at = λ (z : ℤ). clamped (scaled (number_written ds) z) in elim (cases_lt p 1001) [
  | inl l ↦ let e : pos 6 -ℤ pos (f + min p 1000) ≡ (neg_ℤ (pos p) +ℤ pos 6) -ℤ pos f = omega (arith, ints) in ap at e
  | inr g ↦ grind (arith, common_steps, pos, min, ints, cut_zero)
]

pub power_up : (n f p : ℕ) → f ≤ 64 → clamped (scaled n (pos (6 + min p 1000) -ℤ pos f))
    ≡ clamped (scaled n ((pos p +ℤ pos 6) -ℤ pos f))
power_up n f p short = search (rules, both_far)

-- a cut where the number of digits that stay is known
pub cut_is : (ds : List ℕ) (i last v x w : ℕ) → list_all is_ascii_digit ds ≡ true → 1 ≤ last → i + last ≡ length ds
    → v ≡ clamped (number_written (take i ds)) → x ≡ get_or ds i 0 → w ≡ clamped (v + cond (ltb x 53) 0 1)
    → w ≡ clamped (scaled (number_written ds) (negsuc (last - 1)))
cut_is ds i last v x w all one e is digit next = search (rules, cut_exact)
