-- Increasing lists.
use Rattle.std.specs.Prelude.{ℕ, ◌+◌, ◌<◌, ◌≤◌, List, [], ◌∷◌}

-- The numbers rise, from the one bound on and below the other.
abbrev pub IsIncreasing : (low high : ℕ) (xs : List ℕ) → Type 0
IsIncreasing low high [] = Unit {0}
IsIncreasing low high (x ∷ xs) = (low ≤ x) × (x < high) × IsIncreasing (x + 1) high xs
