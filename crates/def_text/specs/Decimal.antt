-- Decimals: their form, and their exact value rounded to millionths.
use Rattle.std.specs.Prelude.{◌≡◌, ℕ, suc, ◌+◌, ◌*◌, ◌^◌, ◌/◌, ◌==◌, ◌&&◌, ◌||◌, nat_le, nat_lt, Bool, true, false, ℤ}
use Rattle.std.specs.Prelude.{pos, negsuc, ◌+ℤ◌, ◌-ℤ◌, neg_ℤ, unsigned_abs, if◌then◌else◌, [], ◌∷◌, ◌++◌, length, drop}
use Rattle.std.specs.List.{after_first, before_first, position_or_len}
use Rattle.def_io.specs.Bytes.{Bytes}
use Rattle.def_text.specs.Digits.{is_negative, is_signed, number_written, is_number, signed, unsigned}
use Rattle.def_text.specs.Types.{Word}
use Rattle.def_text.specs.declared.letters.TheConstants.{LARGE_E, POINT, SMALL_E}
use Rattle.def_text.specs.declared.limits.TheConstants.{MAX_DECIMAL, MAX_MICRO}
use Rattle.def_text.specs.declared.decimal.DecFail.{DecFail}
use Rattle.def_text.specs.declared.decimal.DecFail.TheVariants as dec_fail

-- The point between the digits.
abbrev pub is_point : (byte : ℕ) → Bool
is_point byte = byte == POINT

-- `e` or `E` before an exponent.
abbrev pub is_mark : (byte : ℕ) → Bool
is_mark byte = (byte == SMALL_E) || (byte == LARGE_E)

-- What stands between the sign and the exponent.
abbrev pub mantissa : (word : Word) → Bytes
mantissa word = before_first is_mark (unsigned word)

-- The exponent with its mark, or nothing.
abbrev pub exponent : (word : Word) → Bytes
exponent word = drop (position_or_len is_mark (unsigned word)) (unsigned word)

-- The digits behind the point.
abbrev pub fraction_digits : (word : Word) → Bytes
fraction_digits word = after_first is_point (mantissa word)

-- All digits before the exponent.
abbrev pub all_digits : (word : Word) → Bytes
all_digits word = before_first is_point (mantissa word) ++ fraction_digits word

-- No exponent, or a mark, an optional sign and digits.
abbrev pub is_exponent : (exponent : Bytes) → Bool
is_exponent [] = true
is_exponent (_ ∷ word) = is_signed word

-- The value of an exponent.
abbrev pub power : (exponent : Bytes) → ℤ
power [] = pos 0
power (_ ∷ word) = signed word

-- At most 64 bytes: an optional sign, digits with an optional point among them, an optional exponent.
abbrev pub is_decimal : (word : Word) → Bool
is_decimal word = nat_le (length word) MAX_DECIMAL && (is_number (all_digits word) && is_exponent (exponent word))

-- A whole number times a power of ten, rounded to a whole number, a half upwards.
abbrev pub scaled : (n : ℕ) (power : ℤ) → ℕ
scaled n (pos k) = n * 10 ^ k
scaled n (negsuc k) = (2 * n + 10 ^ suc k) / (2 * 10 ^ suc k)

-- The millionths of a decimal without its sign.
abbrev pub rounded_size : (word : Word) → ℕ
rounded_size word =
    scaled (number_written (all_digits word)) ((power (exponent word) +ℤ pos 6) -ℤ pos (length (fraction_digits word)))

-- The millionths of a decimal: a half is rounded away from zero.
abbrev pub rounded : (word : Word) → ℤ
rounded word = if is_negative word then neg_ℤ (pos (rounded_size word)) else pos (rounded_size word)

-- More than 999,999,999,999,999 millionths in absolute value.
abbrev pub is_far : (z : ℤ) → Bool
is_far z = nat_lt MAX_MICRO (unsigned_abs z)

-- The word is a decimal, and its millionths are these and in range.
abbrev pub IsValue : (word : Word) (z : ℤ) → Type 0
IsValue word z = (is_decimal word ≡ true) × (is_far (rounded word) ≡ false) × (z ≡ rounded word)

-- Why a word has no value: it is no decimal, or its millionths are out of range.
abbrev pub IsDecFail : (word : Word) (fail : DecFail) → Type 0
IsDecFail word dec_fail.Syntax = is_decimal word ≡ false
IsDecFail word dec_fail.Range = (is_decimal word ≡ true) × (is_far (rounded word) ≡ true)
