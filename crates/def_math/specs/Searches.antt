-- The least number that passes a test.
use Rattle.std.specs.Prelude.{ℕ, zero, suc, Bool, true, false, Option, Some, None}

-- What was found before, or else this number if it passes.
abbrev pub or_this : (found : Option ℕ) (n : ℕ) (passes : Bool) → Option ℕ
or_this (Some k) n passes = Some k
or_this None n true = Some n
or_this None n false = None

-- The least number below a bound that passes a test.
abbrev pub least : (test : ℕ → Bool) (bound : ℕ) → Option ℕ
least test zero = None
least test (suc n) = or_this (least test n) n (test n)
