-- What a search knows: vertices of its graph alone.
use Rattle.std.specs.Prelude.{ℕ, ◌<◌, List}
use Rattle.std.specs.List.{All}
use Rattle.std.specs.declared.cmp.Reverse.{Reverse}

-- A key of a vertex.
abbrev pub IsKey : (n : ℕ) (key : Reverse ℕ × ℕ) → Type 0
IsKey n key = key.1 < n

-- The vertices that were reached, those that are near, and those that wait.
pub record AreKnown (n : ℕ) (reached near : List ℕ) (beyond : List (Reverse ℕ × ℕ)) : Type 0 where
  pub below : All (λ v. v < n) reached
  pub near_below : All (λ v. v < n) near
  pub keys : All (IsKey n) beyond
