-- Digits, and whole numbers with a sign.
use Rattle.std.specs.Prelude.{ℕ, ◌-◌, ◌==◌, ◌||◌, Bool, false, ℤ, pos, neg_ℤ, if◌then◌else◌, [], ◌∷◌, map}
use Rattle.std.specs.Char.{is_ascii_digit}
use Rattle.std.specs.Int.Digits.{number_from_digits}
use Rattle.std.specs.List.{list_all}
use Rattle.def_io.specs.Bytes.{Bytes}
use Rattle.def_text.specs.Types.{Word}
use Rattle.def_text.specs.declared.letters.TheConstants.{MINUS, PLUS, ZERO}

-- One or more digits and nothing else.
abbrev pub is_number : (word : Word) → Bool
is_number [] = false
is_number (byte ∷ bytes) = list_all is_ascii_digit (byte ∷ bytes)

-- The number that digits write.
abbrev pub number_written : (digits : Bytes) → ℕ
number_written digits = number_from_digits 10 (map (λ digit. digit - ZERO) digits)

-- Plus and minus are the signs.
abbrev pub is_sign : (byte : ℕ) → Bool
is_sign byte = (byte == PLUS) || (byte == MINUS)

-- A word without its sign, where it has one.
abbrev pub unsigned : (word : Word) → Bytes
unsigned [] = []
unsigned (byte ∷ bytes) = if is_sign byte then bytes else byte ∷ bytes

-- A word that begins with a minus.
abbrev pub is_negative : (word : Word) → Bool
is_negative [] = false
is_negative (byte ∷ _) = byte == MINUS

-- An optional sign and a number.
abbrev pub is_signed : (word : Word) → Bool
is_signed word = is_number (unsigned word)

-- The value of an optional sign and a number.
abbrev pub signed : (word : Word) → ℤ
signed word =
    if is_negative word then neg_ℤ (pos (number_written (unsigned word))) else pos (number_written (unsigned word))
