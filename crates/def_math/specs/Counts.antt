-- Sums of natural numbers, which are counts where each term is 0 or 1.
use Rattle.std.specs.Prelude.{ℕ, zero, suc, ◌+◌, List, [], ◌∷◌}

-- The sum of f along a list.
abbrev pub count : {X : Type 0} (f : X → ℕ) (xs : List X) → ℕ
count f [] = 0
count f (x ∷ xs) = f x + count f xs

-- The sum of f over the numbers below a bound.
abbrev pub count_below : (f : ℕ → ℕ) (bound : ℕ) → ℕ
count_below f zero = 0
count_below f (suc n) = count_below f n + f n
