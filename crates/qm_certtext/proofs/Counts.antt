-- A line of one kind is none of another.
use Rattle.std.proofs.Common.{rules, arith, drop, eqb, get_or, ltb, pos, true, ℕ, ◌+◌, ◌<◌, ◌^◌, ◌∷◌, ◌≡◌, ap, ◌≤◌}
use Rattle.std.proofs.Common.{None, Option, Some, cond, false, length, negsuc, map, min, refl, suc, take, zero, ◌&&◌}
use Rattle.std.proofs.Common.{◌++◌, ℤ, ◌-◌}
use Rattle.std.proofs.lemmas.Bool.{eqb-true, and_right}
use Rattle.std.proofs.lemmas.Fmt.{decimal-digits_value, decimal_injective, decimal_nonempty, first_decimal}
use Rattle.qm_dec.proofs.ReadBack.{decimal_digits, decimal_number, digit_other, digits_fail, first_at, first_passes}
use Rattle.std.proofs.lemmas.{Str.Parse.IsNumeralModel, Str.Parse.numerals_by_fold, List.drop_at, List.take-append-drop}
use Rattle.def_certtext.specs.declared.{certs.Rising.TheVariants.Rounds, certs.Rising.Rising, certs.Rise.Rise}
use Rattle.{std.proofs.Math.Seq.drop-cons, std.proofs.lemmas.Bool.ne_eqb, std.specs.Int.Digits.number_from_digits_after}
use Rattle.{def_text.specs.Digits.number_written, std.specs.Fmt.digits, def_certtext.specs.Reading.is_small}
use Rattle.{def_certtext.specs.Reading.may_tell, qm_scan.proofs.Numbers.number_all, def_text.specs.Digits.is_number}
use Rattle.{std.proofs.lemmas.List.take_at, std.specs.Prelude.unsigned_abs, std.specs.List.position_or_len}
use Rattle.{std.specs.Char.is_ascii_digit, std.specs.Fmt.signed_decimal, std.specs.Prelude.decimal}
use Rattle.{def_text.specs.Types.Word, std.specs.List.list_all}

-- So are the numbers of a rise, which a line may tell in rounds alone.
pub rise_low : (rising : Rising) (rise : Rise) → may_tell rising rise ≡ true → (rise.arc < 2 ^ 32) × (rise.floor ≤ 3)
rise_low rising rise h1 = search rules

-- As a number and its `up` they are small.
pub rise_small : (rising : Rising) (rise : Rise) → may_tell rising rise ≡ true
    → is_small (pos (rise.arc + 1)) rise.floor ≡ true
rise_small rising rise may = search rules

-- Numbers as certificate lines have them.

-- Digits, and the number that they write.
numeral : IsNumeralModel (λ word. list_all is_ascii_digit word ≡ true) number_written
numeral = numerals_by_fold _ (search rules) (λ n word. number_from_digits_after 10 n (map (λ d. d - 48) word))
    (record { empty = λ n. refl; more = λ n c cs small. refl })

pub no_lead : (n : ℕ) → n < 2 ^ 64 → (ltb 1 (length (decimal n)) && eqb (get_or (decimal n) 0 0) 48) ≡ false
unfolding digits
no_lead zero low = refl
no_lead (suc n) low = and_right (ltb 1 (length (decimal (suc n)))) _
    (ne_eqb _ _ (λ e. absurd (omega (arith, first_decimal (suc n) (omega arith) low))))

-- What is not read as a count is none.
pub no_count : (word : Word) (greatest n : ℕ) (o : Option ℕ) → greatest < 10 ^ 18 → n ≤ greatest → word ≡ decimal n
    → o ≡ cond (is_number word) (Some (min (number_written word) (2 ^ 64 - 1))) None → (o ≡ Some n)
no_count word greatest n o few low is read = search (
  rules,
  decimal_number,
  number_all,
  decimal_nonempty,
  decimal_digits,
)

-- A count is read where there is one.
pub count_read : (word : Word) (greatest n : ℕ) → greatest < 10 ^ 18 → n ≤ greatest
    → (ltb 1 (length word) && eqb (get_or word 0 0) 48) ≡ false
    → Some n ≡ cond (is_number word) (Some (min (number_written word) (2 ^ 64 - 1))) None → word ≡ decimal n
count_read word greatest n few low lead read = grind (arith, decimal-digits_value numeral word)

pub negative_form : (z : ℤ) (digits : Word) → unsigned_abs z < 10 ^ 18 → 45 ∷ digits ≡ signed_decimal z
    → (k : ℕ) × (z ≡ negsuc k) × (digits ≡ decimal (suc k)) × (suc k < 10 ^ 18)
negative_form (pos n) digits low is = absurd (grind (
  arith,
  decimal_digits n (omega arith),
  ap (list_all is_ascii_digit) is,
))
negative_form (negsuc k) digits low is = (k, refl, ap (drop 1) is, low)

-- The first space stands behind a number.
pub place_of_space : (text : Word) (z : ℤ) (up : ℕ) → unsigned_abs z < 10 ^ 18 → text
    ≡ signed_decimal z ++ 32 ∷ decimal up → position_or_len (λ b. eqb b 32) text ≡ length (signed_decimal z)
place_of_space text z up low is = search (rules, first_at, digits_fail, digit_other, decimal_digits)

pub small_parts : (z : ℤ) (up : ℕ) → is_small z up ≡ true → (unsigned_abs z < 10 ^ 18) × (up < 2 ^ 32)
small_parts z up is = search rules

module _ {text prefix behind : Word} {i : ℕ} (place : i ≡ position_or_len (λ b. eqb b 32) text)
    (before : prefix ≡ take i text) (back : behind ≡ drop i text) where
  pub parts_are : (z : ℤ) (up : ℕ) → is_small z up ≡ true → text ≡ signed_decimal z ++ 32 ∷ decimal up
      → (prefix ≡ signed_decimal z) × (behind ≡ 32 ∷ decimal up)
  parts_are z up small is = search (rules, place_of_space, take_at, drop_at)

  pub both_read : (rest : Word) (z : ℤ) (up : ℕ) → false ≡ eqb (length behind) 0 → rest ≡ drop 1 behind
      → unsigned_abs z < 10 ^ 18 → prefix ≡ signed_decimal z → up ≤ 2 ^ 32 - 1 → rest ≡ decimal up
      → (is_small z up ≡ true) × (text ≡ signed_decimal z ++ 32 ∷ decimal up)
  both_read rest z up some is low written_so few ups =
      let long : 0 < length behind = grind (arith, some) in
      let first = eqb-true _ 32 (first_passes (λ b. eqb b 32) text (rw (← place, ← back) long)) in
      search (rules, take-append-drop, drop-cons behind 0 0 long)

  -- A rise is a number from 1 and a floor.
  pub rise_parts : (rise : Rise) → may_tell Rounds rise ≡ true → text ≡ decimal (rise.arc + 1) ++ 32 ∷ decimal
      rise.floor → (prefix ≡ decimal (rise.arc + 1)) × (behind ≡ 32 ∷ decimal rise.floor)
  rise_parts rise may is = parts_are (pos (rise.arc + 1)) rise.floor (rise_small Rounds rise may) is

  pub rise_not_zero : (n : ℕ) → n ≡ 0 → prefix ≡ decimal n → (rise : Rise) → may_tell Rounds rise ≡ true
      → text ≡ decimal (rise.arc + 1) ++ 32 ∷ decimal rise.floor → ⊥
  rise_not_zero n none is rise may same = search (rules, decimal_injective, rise_parts)

-- A text is one number and one `up`.
pub split_once : (text : Word) (y z : ℤ) (u v : ℕ) → is_small y u ≡ true → is_small z v ≡ true
    → text ≡ signed_decimal y ++ 32 ∷ decimal u
    → text ≡ signed_decimal z ++ 32 ∷ decimal v → (signed_decimal y ≡ signed_decimal z) × (decimal u ≡ decimal v)
split_once text y z u v small_y small_z one two =
    let first = parts_are {text = text} refl refl refl y u small_y one in
    let second = parts_are {text = text} refl refl refl z v small_z two in
    grind arith
