-- Numbers that are read only as far as they are in range.
use Rattle.std.specs.Prelude.{◌≡◌, ◌<◌, ℕ, ◌^◌, min, true}
use Rattle.def_text.specs.Decimal.{is_decimal, rounded_size}
use Rattle.def_text.specs.Types.{Word}

-- A number, or the least that is out of range.
abbrev pub clamped : (n : ℕ) → ℕ
clamped n = min n (10 ^ 15)

-- The word is a decimal, and these are its millionths without the sign, in range.
abbrev pub IsSize : (word : Word) (n : ℕ) → Type 0
IsSize word n = (is_decimal word ≡ true) × (n ≡ rounded_size word) × (n < 10 ^ 15)
