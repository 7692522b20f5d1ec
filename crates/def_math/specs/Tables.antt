-- Tables of numbers, by place.
use Rattle.std.specs.Prelude.{◌≡◌, ℕ, ◌+◌, ◌<◌, ◌==◌, if◌then◌else◌, List, length, slice_index, slice_set}

-- The table with so much more at one place.
abbrev pub add_at : (table : List ℕ) (place more : ℕ) → List ℕ
add_at table place more = slice_set table place (slice_index table place + more)

-- So much at one place, and nothing at the others.
abbrev pub at_place : (place more v : ℕ) → ℕ
at_place place more v = if place == v then more else 0

-- The new table has at each place what the old one has there, and so much more.
pub record IsRaised (more : ℕ → ℕ) (old new : List ℕ) : Type 0 where
  pub long : length new ≡ length old
  pub each : (v : ℕ) → v < length old → slice_index new v ≡ slice_index old v + more v

-- The table of a function below a bound.
pub record IsTally (f : ℕ → ℕ) (bound : ℕ) (table : List ℕ) : Type 0 where
  pub count : length table ≡ bound
  pub each : (v : ℕ) → v < bound → slice_index table v ≡ f v
