-- Numbers as they are printed: their digits, their value, their length, and where other bytes stand among them.
use Rattle.std.proofs.lemmas.Grind.{common_steps}
use Rattle.std.proofs.Common.{rules, ◌≡◌, ℕ, ◌+◌, ◌%◌, ◌^◌, ◌<◌, Bool, true, false, not, cond, eqb, List, [], ◌∷◌, ◌++◌}
use Rattle.std.proofs.Common.{length, ap, ◌∙◌, refl, arith, get_or, ◌≤◌, take, drop, sym, ap₂, ◌-◌, ◌/◌, set, zero, suc}
use Rattle.std.proofs.Common.{◌*◌, pos, negsuc, neg_ℤ, inl, inr, length-append}
use Rattle.std.proofs.{lemmas.List.Sums.passes_at_first, lemmas.List.Sums.suffix_len-le-length, lemmas.List.append-nil}
use Rattle.std.proofs.{lemmas.List.Folds.list_all-append, Math.Seq.drop-cons, Math.Seq.drop-append-add}
use Rattle.std.proofs.lemmas.Bool.{not-true, and_parts, and_from, le-leb, not_from_true, ne_eqb, false≢true, eqb-true}
use Rattle.std.proofs.lemmas.Bool.{or_from, le-ltb, cases_eq, cond-true, cond-false, cases_Bool}
use Rattle.std.proofs.lemmas.List.Sums.{list_all-from_AllPass, AllPass-from_list_all, position_or_len_is}
use Rattle.std.proofs.lemmas.List.{get_or-drop, length-drop, take_at, drop_at, take-append-drop, reverse-append}
use Rattle.std.proofs.lemmas.List.{take-append-le, take_all, length_push, length-take, drop_all, take_more, length-map}
use Rattle.std.proofs.lemmas.Fmt.{decimal_by_steps, length-decimal-le, decimal_digit, decimal_step, decimal_nonempty}
use Rattle.std.specs.List.{list_all, position_or_len, prefix_len, suffix_len, before_first}
use Rattle.def_text.specs.Canonical.{fraction_text, six_digits, without_zeros, micro_text}
use Rattle.def_text.specs.{Decimal.rounded_size, Corner.is_slash, Ratio.IsRatio, Laws.CanonicalLaw}
use Rattle.def_text.specs.Decimal.{all_digits, exponent, fraction_digits, is_decimal, is_mark, is_point, mantissa}
use Rattle.def_text.specs.Digits.{number_written, is_negative, unsigned}
use Rattle.qm_dec.proofs.Digits.{number_append, after_is, digits_split, number_both}
use Rattle.{std.proofs.lemmas.Nat.pow-add, std.proofs.Math.Nat.pow-suc, std.specs.Prelude.decimal}
use Rattle.{std.specs.Char.is_ascii_digit, qm_scan.proofs.Numbers.digit_small, qm_scan.proofs.Numbers.values}

glyph : (d : ℕ) → d < 10 → is_ascii_digit (48 + d) ≡ true
glyph d l = and_from _ _ (le-leb 48 (48 + d) (omega arith)) (le-leb (48 + d) 57 (omega arith))

-- a printed number has digits alone, and its value
pub decimal_digits : (n : ℕ) → n < 2 ^ 64 → list_all is_ascii_digit (decimal n) ≡ true
decimal_digits n l = decimal_by_steps (λ m ds. list_all is_ascii_digit ds ≡ true) (λ m s. and_from _ _ (glyph m s) refl)
    (search (rules, list_all-append, and_from, glyph)) n l

pub decimal_number : (n : ℕ) → n < 2 ^ 64 → number_written (decimal n) ≡ n
decimal_number n l = decimal_by_steps (λ m ds. number_written ds ≡ m) (λ m s. omega arith)
    (λ m ds s e. number_append ds ((48 + m % 10) ∷ []) ∙ omega arith) n l

-- the first byte that passes a test, behind bytes that do not
pub none_first : (b : ℕ → Bool) (xs : List ℕ) → list_all (λ x. not (b x)) xs ≡ true → position_or_len b xs ≡ length xs
none_first b xs all = position_or_len_is b xs (length xs) 0 (omega arith) (λ k low. not-true (b (get_or xs k 0))
    (AllPass-from_list_all (λ x. not (b x)) xs all k 0 low)) (λ low. absurd (omega arith))

pub first_at : (b : ℕ → Bool) (xs : List ℕ) (y : ℕ) (ys : List ℕ) → list_all (λ x. not (b x)) xs ≡ true → b y ≡ true
    → position_or_len b (xs ++ y ∷ ys) ≡ length xs
first_at b [] y ys all is = ap (λ t. cond t (1 + prefix_len (λ x. not (b x)) ys) 0) (not_from_true (b y) is)
first_at b (x ∷ xs) y ys all is = let p = and_parts (not (b x)) (list_all (λ x. not (b x)) xs) all in
    ap (λ t. cond t (1 + prefix_len (λ z. not (b z)) (xs ++ y ∷ ys)) 0) p.0 ∙ omega (arith, first_at b xs y ys p.1 is)

-- no digit passes a test that passes none
pub digits_fail : (b : ℕ → Bool) → ((d : ℕ) → is_ascii_digit d ≡ true → b d ≡ false) → (xs : List ℕ)
    → list_all is_ascii_digit xs ≡ true → list_all (λ x. not (b x)) xs ≡ true
digits_fail b other xs all = search (rules, list_all-from_AllPass, AllPass-from_list_all)

-- no digit is this byte, below the digits
pub digit_other : (c : ℕ) → c < 48 → (d : ℕ) → is_ascii_digit d ≡ true → eqb d c ≡ false
digit_other c l d is = ne_eqb d c (λ e. absurd (omega (arith, (digit_small d is).0)))

-- The parts of a ratio's word.

-- what is not digits is no printed number
pub not_printed : (word : List ℕ) → false ≡ list_all is_ascii_digit word → (n : ℕ) → n ≤ 10000 → word ≡ decimal n → ⊥
not_printed word e n l is = false≢true (e ∙ ap (list_all is_ascii_digit) is ∙ decimal_digits n (omega arith))

-- what stands before the slash of a ratio, and behind it
pub sides : (word : List ℕ) (p q : ℕ) → IsRatio word p q → (take (position_or_len is_slash word) word ≡ decimal p)
    × (drop (position_or_len is_slash word) word ≡ 47 ∷ decimal q)
sides word p q r = search (rules, first_at, digits_fail, decimal_digits, take_at, drop_at)

pub above_is : (word : List ℕ) (p q : ℕ) → IsRatio word p q → take (position_or_len (λ b. eqb b 47) word) word
    ≡ decimal p
above_is word p q r = (sides word p q r).0

pub below_is : (word : List ℕ) (p q : ℕ) → IsRatio word p q → drop (position_or_len (λ b. eqb b 47) word) word
    ≡ 47 ∷ decimal q
below_is word p q r = (sides word p q r).1

-- what stands at the first byte that passes does pass
pub first_passes : (b : ℕ → Bool) (xs : List ℕ) → 0 < length (drop (position_or_len b xs) xs)
    → b (get_or (drop (position_or_len b xs) xs) 0 0) ≡ true
first_passes b xs l = grind (arith, common_steps, drop, get_or-drop, passes_at_first, length-drop)

-- two printed numbers with the first slash between them are a ratio's word
pub joined : (word : List ℕ) (p q : ℕ) → 0 < length (drop (position_or_len is_slash word) word)
    → take (position_or_len is_slash word) word ≡ decimal p
    → drop 1 (drop (position_or_len is_slash word) word) ≡ decimal q → word ≡ decimal p ++ 47 ∷ decimal q
joined word p q l above below = sym (take-append-drop (position_or_len is_slash word) word)
    ∙ ap₂ (λ (xs ys : List ℕ). xs ++ ys) above (drop-cons _ 0 0 l ∙ ap₂ (λ y (ys : List ℕ). y ∷ ys)
    (eqb-true _ _ (first_passes is_slash word l)) below)

-- The canonical text of a number: zeros at the end of digits, and lengths.

-- The zeros at the end of digits with one more.
suffix_push : (xs : List ℕ) (x : ℕ) → suffix_len (λ d. eqb d 48) (xs ++ x ∷ [])
    ≡ cond (eqb x 48) (1 + suffix_len (λ d. eqb d 48) xs) 0
suffix_push xs x = ap (prefix_len (λ d. eqb d 48)) (reverse-append xs (x ∷ []))

-- A zero at the end goes.
pub without_zeros-zero : (xs : List ℕ) → without_zeros (xs ++ 48 ∷ []) ≡ without_zeros xs
without_zeros-zero xs = grind (arith, common_steps, suffix_len-le-length, suffix_push, length_push, take-append-le)

-- Another digit at the end stays.
pub without_zeros-other : (xs : List ℕ) (x : ℕ) → (x ≡ 48 → ⊥) → without_zeros (xs ++ x ∷ []) ≡ xs ++ x ∷ []
without_zeros-other xs x ne = grind (arith, common_steps, suffix_push, ne_eqb, take_all)

pub ruleset trims = (without_zeros-zero, without_zeros-other)

-- the text behind the point is short
pub trimmed_short : (r : ℕ) → r < 10 ^ 6 → length (without_zeros (six_digits r)) ≤ 6
trimmed_short r l =
    let kept = length-take (length (six_digits r) - suffix_len (λ d. eqb d 48) (six_digits r)) (six_digits r) in
    let seven = length-decimal-le 7 (10 ^ 6 + r) (omega arith) (omega arith) (omega arith) in
    omega (arith, length-drop 1 (decimal (10 ^ 6 + r)))

pub fraction_short : (r : ℕ) → r < 10 ^ 6 → length (fraction_text r) ≤ 7
fraction_short r l = grind (arith, trimmed_short r l)

-- the digits before the point
pub whole_short : (n : ℕ) → n ≤ 999_999_999_999_999 → length (decimal (n / 10 ^ 6)) ≤ 9
whole_short n l = length-decimal-le 9 (n / 10 ^ 6) (omega arith) (omega arith) (omega arith)

pub first_of_write : (out : List ℕ) (b : ℕ) → 1 ≤ length out → take 1 (set out 0 b) ≡ b ∷ []
first_of_write [] b l = absurd (omega arith)
first_of_write (x ∷ xs) b l = refl

-- The canonical text of a number reads back as the number.

-- The six digits of a number below a million are six, and write it: before them is a 1.
six : (r : ℕ) → r < 10 ^ 6 → (length (six_digits r) ≡ 6) × (number_written (six_digits r) ≡ r)
six r l =
    let n = 10 ^ 6 + r in
    let top : n / 10 / 10 / 10 / 10 / 10 / 10 ≡ 1 = omega arith in
    rw (decimal_step n (omega arith) (omega arith), decimal_step (n / 10) (omega arith) (omega arith)) (rw (
      decimal_step (n / 10 / 10) (omega arith) (omega arith),
      decimal_step (n / 10 / 10 / 10) (omega arith) (omega arith),
    ) (rw (
      decimal_step (n / 10 / 10 / 10 / 10) (omega arith) (omega arith),
      decimal_step (n / 10 / 10 / 10 / 10 / 10) (omega arith) (omega arith),
    ) (rw (top, decimal_digit 1 (omega arith)) (refl, omega arith))))

-- zeros at the end shift the number of the digits before them
shifted : (a long n q : ℕ) → long ≤ n → a * 10 ^ (n - long) ≡ q → a * 10 ^ (suc n - long) ≡ q * 10
shifted a long n q l e = ap (λ k. a * 10 ^ k) (omega arith) ∙ ap (λ p. a * p) (pow-suc 10 (n - long)) ∙ omega (arith, e)

trimmed_number : (n : ℕ) (xs : List ℕ) → length xs ≡ n → (length (without_zeros xs) ≤ n)
    × (number_written (without_zeros xs) * 10 ^ (n - length (without_zeros xs)) ≡ number_written xs)
trimmed_number zero [] e = (omega arith, omega arith)
trimmed_number zero (x ∷ xs) e = absurd (omega arith)
trimmed_number (suc n) xs e =
    let p = take n xs in
    let before = trimmed_number n p (length-take n xs ∙ omega arith) in
    let is : xs ≡ p ++ (get_or xs n 0) ∷ [] = sym (take_all (n + 1) xs (omega arith)) ∙ take_more xs n 0 (omega arith)
    in grind (arith, common_steps, cases_eq, inl, without_zeros-zero, shifted, number_append, inr, without_zeros-other)

-- The parts of a word without an exponent.
no_marks : (ds : List ℕ) → list_all is_ascii_digit ds ≡ true → list_all (λ x. not (is_mark x)) ds ≡ true
no_marks = digits_fail is_mark (search (rules, digit_small, or_from, ne_eqb))

no_points : (ds : List ℕ) → list_all is_ascii_digit ds ≡ true → list_all (λ x. not (is_point x)) ds ≡ true
no_points ds all = digits_fail is_point (digit_other 46 (omega arith)) ds all

-- nothing is a mark: the whole is the mantissa
unmarked : (word body : List ℕ) → unsigned word ≡ body → list_all (λ x. not (is_mark x)) body ≡ true
    → (mantissa word ≡ body) × (exponent word ≡ [])
unmarked word body is none = let end = none_first is_mark body none in search (rules, take_all, drop, drop_all)

-- the parts that a decimal's value is made of
pub record HasParts (word digits fraction : List ℕ) : Type 0 where
  pub all : all_digits word ≡ digits
  pub behind : fraction_digits word ≡ fraction
  pub no_power : exponent word ≡ []

pub plain_parts : (word ds : List ℕ) → unsigned word ≡ ds → list_all is_ascii_digit ds ≡ true
    → HasParts word (ds ++ []) []
plain_parts word ds is all =
    search (rules, none_first is_point ds (no_points ds all), unmarked word ds is (no_marks ds all), drop_all, take_all)

pub pointed_parts : (word ds ys : List ℕ) → unsigned word ≡ ds ++ 46 ∷ ys → list_all is_ascii_digit ds ≡ true
    → list_all is_ascii_digit ys ≡ true → HasParts word (ds ++ ys) ys
pointed_parts word ds ys is all rest =
    let m = unmarked word (ds ++ 46 ∷ ys) is (search (rules, list_all-append, and_from, no_marks)) in
    search (rules, first_at is_point ds 46 ys (no_points ds all) refl, drop-append-add, take_at)

-- the value of such a word
pub parts_size : (word digits fraction : List ℕ) → HasParts word digits fraction → length fraction ≤ 6
    → rounded_size word ≡ number_written digits * 10 ^ (6 - length fraction)
parts_size word digits fraction h short = search rules

-- a short word with such parts is a decimal
pub parts_form : {word fs : List ℕ} (ds : List ℕ) → HasParts word (ds ++ fs) fs → length word ≤ 64 → 0 < length ds
    → list_all is_ascii_digit ds ≡ true → list_all is_ascii_digit fs ≡ true → is_decimal word ≡ true
parts_form {word} {fs} ds h short some all rest = search (rules, number_both)

-- the word is a decimal of this size
pub record ReadsAs (word : List ℕ) (n : ℕ) : Type 0 where
  form : is_decimal word ≡ true
  size : rounded_size word ≡ n

-- a word of a printed number and digits behind it
parts_read : (word : List ℕ) (w q n : ℕ) (fs : List ℕ) → length word ≤ 64 → w < 2 ^ 64
    → HasParts word (decimal w ++ fs) fs → list_all is_ascii_digit fs ≡ true → length fs ≤ 6
    → number_written fs * 10 ^ (6 - length fs) ≡ q → w * 10 ^ 6 + q ≡ n → ReadsAs word n
parts_read word w q n fs short low h all few e sum =
    let ds = decimal w in
    let is : number_written (ds ++ fs) ≡ w * 10 ^ length fs + number_written fs =
    grind (arith, common_steps, number_append, after_is, values, decimal_number) in
    let six : length fs + (6 - length fs) ≡ 6 = omega arith in
    let t = sym (pow-add 10 (length fs) (6 - length fs)) ∙ ap (λ k. 10 ^ k) six in
    record {
      form = parts_form ds h short (decimal_nonempty w low) (decimal_digits w low) all;
      size = parts_size _ _ fs h few ∙ ap (λ m. m * 10 ^ (6 - length fs)) is ∙ omega (arith, e, ap (λ x. w * x) t, sum);
    }

body_reads : (word : List ℕ) (n : ℕ) → n ≤ 999_999_999_999_999 → length word ≤ 64 → unsigned word ≡ decimal (n / 10 ^ 6)
    ++ fraction_text (n % 10 ^ 6) → ReadsAs word n
body_reads word n l short is =
    let w = n / 10 ^ 6 in
    let r = n % 10 ^ 6 in
    let low : w < 2 ^ 64 = omega arith in
    let ds = decimal_digits w low in elim (cases_Bool (eqb r 0)) [
      | inl e ↦ parts_read word w 0 n [] short low (plain_parts word (decimal w) (search (rules, cond-true, append-nil))
          ds) refl (omega arith) (omega arith) (omega (arith, eqb-true r 0 e))
      | inr e ↦
          let t = trimmed_number 6 (six_digits r) (six r (omega arith)).0 in
          let ys = (digits_split (six_digits r) _
          (digits_split (decimal (10 ^ 6 + r)) 1 (decimal_digits (10 ^ 6 + r) (omega arith))).1).0 in
          parts_read word w r n (without_zeros (six_digits r)) short low (pointed_parts word (decimal w) _
          (search (rules, cond-false)) ds ys) ys t.0 (t.1 ∙ (six r (omega arith)).1) (omega arith)
    ]

-- digits have no sign
no_sign : (ds fs : List ℕ) → 0 < length ds → list_all is_ascii_digit ds ≡ true → (unsigned (ds ++ fs) ≡ ds ++ fs)
    × (is_negative (ds ++ fs) ≡ false)
no_sign [] fs l all = absurd (omega arith)
no_sign (d ∷ ds) fs l all = search rules

text_short : (n : ℕ) → n ≤ 999_999_999_999_999 → length (decimal (n / 10 ^ 6) ++ fraction_text (n % 10 ^ 6)) ≤ 16
text_short n l = search (rules, length-append, whole_short, fraction_short)

pub canonical_law : CanonicalLaw
canonical_law (pos n) l =
    let w = n / 10 ^ 6 in
    let fs = fraction_text (n % 10 ^ 6) in
    let t = ap (λ b. cond b (45 ∷ []) [] ++ decimal w ++ fs) (le-ltb n 0 (omega arith)) in
    let s = no_sign (decimal w) fs (decimal_nonempty w (omega arith)) (decimal_digits w (omega arith)) in
    let r = body_reads (micro_text (pos n)) n l (omega (arith, ap length t, text_short n l)) (ap unsigned t ∙ s.0) in
    (r.form, cond-false _ _ _ (ap is_negative t ∙ s.1) ∙ ap pos r.size)
canonical_law (negsuc k) l =
    let r = body_reads (micro_text (negsuc k)) (suc k) l (omega (arith, text_short (suc k) l)) refl in
    (r.form, ap (λ m. neg_ℤ (pos m)) r.size)
