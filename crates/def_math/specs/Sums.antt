-- Sums of whole numbers.
use Rattle.std.specs.Prelude.{ℕ, zero, suc, ◌+◌, List, [], ◌∷◌, ℤ, pos, ◌+ℤ◌}

-- The sum of f along a list.
abbrev pub total : {X : Type 0} (f : X → ℤ) (xs : List X) → ℤ
total f [] = pos 0
total f (x ∷ xs) = f x +ℤ total f xs

-- The sum of f over the numbers below a bound.
abbrev pub total_below : (f : ℕ → ℤ) (bound : ℕ) → ℤ
total_below f zero = pos 0
total_below f (suc n) = total_below f n +ℤ f n

-- The sum of f over so many numbers in a row.
abbrev pub span : (f : ℕ → ℤ) (first many : ℕ) → ℤ
span f first zero = pos 0
span f first (suc n) = f first +ℤ span f (first + 1) n
