-- What a walk comes past.
use Rattle.std.specs.Prelude.{ℕ, zero, suc, ◌==◌, ◌||◌, Bool, false}
use Rattle.def_forest.specs.Forests.{walk, set_at}

-- Walking so many steps from a place, that place counted, one comes past another.
abbrev pub listed : (next : ℕ → ℕ) (from many x : ℕ) → Bool
listed next from zero x = false
listed next from (suc k) x = listed next from k x || (walk next from k == x)

-- A function with other values at so many places.
abbrev pub writes : {X : Type 0} (f : ℕ → X) (place : ℕ → ℕ) (value : ℕ → X) (many : ℕ) → ℕ → X
writes f place value zero = f
writes f place value (suc k) = set_at (writes f place value k) (place k) (value k)
