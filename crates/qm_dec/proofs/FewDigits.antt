-- Decimals of few digits without an exponent.
use Rattle.std.proofs.lemmas.Grind.{common_steps}
use Rattle.std.proofs.Common.{rules, ◌≡◌, ℕ, ◌+◌, ◌-◌, ◌*◌, ◌^◌, ◌<◌, ◌≤◌, min, true, List, [], ◌∷◌, ◌++◌, length, take}
use Rattle.std.proofs.Common.{drop, get_or, sym, ap, ◌∙◌, refl, arith}
use Rattle.std.proofs.lemmas.List.{append-nil, length-map, length-take, nil_from_length, take-append-drop, take-take}
use Rattle.std.proofs.Math.Nat.{mul-le-mul_right, mul_assoc, pow-le-pow_right}
use Rattle.std.proofs.{lemmas.Nat.pow-add, Math.Seq.drop-cons}
use Rattle.std.specs.{Char.is_ascii_digit, Int.Digits.number_from_digits_after, List.list_all}
use Rattle.def_text.specs.Digits.{number_written, unsigned}
use Rattle.qm_dec.proofs.ReadBack.{HasParts, parts_form, parts_size, plain_parts, pointed_parts}
use Rattle.qm_dec.proofs.Digits.{ten_power, after_is, number_append}
use Rattle.{qm_dec.specs.Sizes.IsSize, qm_scan.proofs.Numbers.number_small, qm_scan.proofs.Numbers.values}

ten_most : (i j : ℕ) → i ≤ j → 10 ^ i ≤ 10 ^ j
ten_most i j le = pow-le-pow_right {n = 10} (omega arith) {i = i} {j = j} le

-- Digits behind a number of at most nine.
after_small : (n : ℕ) (ds : List ℕ) → n < 10 ^ 9 → list_all is_ascii_digit ds ≡ true
    → number_from_digits_after 10 n (values ds) < 10 ^ 9 * 10 ^ length ds
after_small n ds few all =
    let is = after_is n (values ds) ∙ ap (λ k. n * 10 ^ k + number_written ds) (length-map ds (λ d. d - 48)) in
    search (rules, mul-le-mul_right, number_small)

pub after_room : (n : ℕ) (ds : List ℕ) (i : ℕ) → n < 10 ^ 9 → list_all is_ascii_digit (take i ds) ≡ true → length ds ≤ 9
    → number_from_digits_after 10 n (values (take i ds)) < 10 ^ 18
after_room n ds i few all short = search (rules, length-take, after_small)

-- Nine digits and six more are in range.
pub size_small : (w : ℕ) (ys : List ℕ) → w < 10 ^ 9 → list_all is_ascii_digit ys ≡ true → length ys ≤ 6
    → number_from_digits_after 10 w (values ys) * 10 ^ (6 - length ys) < 10 ^ 15
size_small w ys few all short =
    let f = length ys in
    let low = after_small w ys few all in
    let most : ((number_from_digits_after 10 w (values ys)) + 1) * 10 ^ (6 - f) ≤ 10 ^ 9 * 10 ^ f * 10 ^ (6 - f) =
    mul-le-mul_right (10 ^ (6 - f)) (omega arith) in
    let part : f + (6 - f) ≡ 6 = omega arith in
    let six : 10 ^ f * 10 ^ (6 - f) ≡ 10 ^ 6 = sym (pow-add 10 f (6 - f)) ∙ ap (λ k. 10 ^ k) part in
    omega (arith, mul_assoc (10 ^ 9) (10 ^ f) (10 ^ (6 - f)), ap (λ x. 10 ^ 9 * x) six, ten_power (6 - f))

pub nine_small : (ds : List ℕ) → list_all is_ascii_digit ds ≡ true → length ds ≤ 9 → number_written ds < 10 ^ 9
nine_small ds all nine = omega (arith, number_small ds all, ten_most (length ds) 9 nine)

-- The size of digits with digits behind them.
parts_are : {word fs : List ℕ} (ds : List ℕ) → HasParts word (ds ++ fs) fs → length word ≤ 64 → 0 < length ds
    → length ds ≤ 9 → list_all is_ascii_digit ds ≡ true → list_all is_ascii_digit fs ≡ true → length fs ≤ 6
    → IsSize word (number_from_digits_after 10 (number_written ds) (values fs) * 10 ^ (6 - length fs))
parts_are {word} {fs} ds h short some nine all rest six = grind (
  arith,
  common_steps,
  parts_form,
  parts_size,
  number_append,
  size_small,
  nine_small,
)

-- The digits that a body begins with, at most nine, and their number.
pub record IsPrefix (body : List ℕ) (count n : ℕ) : Type 0 where
  long : length (take count body) ≡ count
  nine : count ≤ 9
  all : list_all is_ascii_digit (take count body) ≡ true
  is : n ≡ number_written (take count body)

pub prefix_is : {body : List ℕ} {most count n : ℕ} → most ≡ min (length body) 9 → count ≤ length (take most body)
    → list_all is_ascii_digit (take count (take most body)) ≡ true
    → n ≡ number_written (take count (take most body)) → IsPrefix body count n
prefix_is {body} {most} {count} {n} is within all value = search (rules, take-take)

pub prefix_small : {body : List ℕ} {count n : ℕ} → IsPrefix body count n → n < 10 ^ 9
prefix_small {body} {count} prefix = search (rules, nine_small, take)

split_prefix : (body rest : List ℕ) (count : ℕ) → rest ≡ drop count body → body ≡ take count body ++ rest
split_prefix body rest count is = rw (is, take-append-drop count body) refl

-- The size of a word by its prefix and what stands behind it.
pub whole_size : (word : List ℕ) {body rest : List ℕ} {count n : ℕ} → length word ≤ 64 → body ≡ unsigned word
    → IsPrefix body count n → (count ≡ 0 → ⊥) → rest ≡ drop count body → length rest ≡ 0 → IsSize word (n * 10 ^ 6)
whole_size word {body} {rest} {count} short is prefix some behind none =
    let ds = take count body in
    let body_is : body ≡ ds = split_prefix body rest count behind ∙ rw (nil_from_length rest none) (append-nil ds) in
    rw prefix.is (parts_are {fs = []} ds (plain_parts word ds (sym is ∙ body_is) prefix.all) short
    (omega (arith, prefix.long)) (omega (arith, prefix.long, prefix.nine)) prefix.all refl (omega arith))

pub pointed_size : (word : List ℕ) {body rest fraction : List ℕ} {count n : ℕ} (size : ℕ) → length word ≤ 64
    → body ≡ unsigned word → IsPrefix body count n → (count ≡ 0 → ⊥) → rest ≡ drop count body → 0 < length rest
    → get_or rest 0 0 ≡ 46 → fraction ≡ drop 1 rest → (list_all is_ascii_digit fraction ≡ true) × (length fraction ≤ 6)
    × (size ≡ number_from_digits_after 10 n (values fraction) * 10 ^ (6 - length fraction)) → IsSize word size
pointed_size word {body} {rest} {fraction} {count} {n} size short is prefix some behind more point tail good =
    let ds = take count body in
    let rest_is : rest ≡ 46 ∷ fraction = rw (← point, tail) (drop-cons rest 0 0 more) in
    let body_is : body ≡ ds ++ 46 ∷ fraction = split_prefix body rest count behind ∙ ap (λ xs. ds ++ xs) rest_is in
    rw (good.2, prefix.is) (parts_are ds (pointed_parts word ds fraction (sym is ∙ body_is) prefix.all good.0) short
    (omega (arith, prefix.long)) (omega (arith, prefix.long, prefix.nine)) prefix.all good.0 good.1)
