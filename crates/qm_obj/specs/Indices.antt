-- The `v` lines that indices name, as the code keeps them: clamped where they can name none.
use Rattle.std.specs.Prelude.{ℕ, ◌-◌, ◌^◌, min, if◌then◌else◌, [], ◌∷◌, map}
use Rattle.std.specs.List.{slice_split}
use Rattle.def_text.specs.Corner.{is_out, is_slash, resolved, used_index}
use Rattle.def_text.specs.declared.reading.Reading.{Reading}
use Rattle.def_text.specs.declared.reading.Reading.TheVariants.{Passed, Position, Face, Refused}
use Rattle.def_text.specs.Types.{Word, Words}

-- The line that an index names, or 0 where it is out, as a `u64`.
abbrev pub named : (before : ℕ) (word : Word) → ℕ
named before word = if is_out before word then 0 else min (resolved before word) (2 ^ 64 - 1)

-- A number as a `u32`.
abbrev pub clamped : (k : ℕ) → ℕ
clamped k = min k (2 ^ 32 - 1)

-- The line that a corner names, or 0 where it is out, as a `u32`.
abbrev pub corner_of : (before : ℕ) (word : Word) → ℕ
corner_of before word = clamped (named before (used_index word))

-- The parts between the slashes behind the first.
abbrev pub parts_behind : (tail : Word) → Words
parts_behind [] = []
parts_behind (_ ∷ rest) = slice_split is_slash rest

-- What a line says, with its corners clamped.
abbrev pub with_clamped : (said : Reading) → Reading
with_clamped (Face line corners) = Face line (map clamped corners)
with_clamped Passed = Passed
with_clamped (Position position) = Position position
with_clamped (Refused fail) = Refused fail
