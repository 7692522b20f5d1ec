-- The canonical text of a soup.
use Rattle.std.specs.Prelude.{ℕ, ◌+◌, ◌-◌, ◌/◌, ◌%◌, ◌^◌, ◌==◌, ℤ, pos, int_lt, unsigned_abs, if◌then◌else◌, []}
use Rattle.std.specs.Prelude.{◌∷◌, ◌++◌, length, take, drop, decimal}
use Rattle.std.specs.List.{flat_map, suffix_len}
use Rattle.def_io.specs.Bytes.{Bytes}
use Rattle.def_io.specs.declared.TheConstants.{LINE_FEED}
use Rattle.def_mesh.specs.Faces.{Face}
use Rattle.def_text.specs.FaceSet.{FaceSet}
use Rattle.def_text.specs.Types.{Position}
use Rattle.def_text.specs.declared.letters.TheConstants.{FACE, MINUS, POINT, SPACE, VERTEX, ZERO}

-- Digits without the zeros at their end.
abbrev pub without_zeros : (digits : Bytes) → Bytes
without_zeros digits = take (length digits - suffix_len (λ digit. digit == ZERO) digits) digits

-- The six digits of a number below a million.
abbrev pub six_digits : (n : ℕ) → Bytes
six_digits n = drop 1 (decimal (10 ^ 6 + n))

-- The point and the digits behind it, of so many millionths.
abbrev pub fraction_text : (n : ℕ) → Bytes
fraction_text n = if n == 0 then [] else POINT ∷ without_zeros (six_digits n)

-- A minus where the number is below 0.
abbrev pub minus_text : (z : ℤ) → Bytes
minus_text z = if int_lt z (pos 0) then MINUS ∷ [] else []

-- A number of millionths.
abbrev pub micro_text : (z : ℤ) → Bytes
micro_text z = minus_text z ++ decimal (unsigned_abs z / 10 ^ 6) ++ fraction_text (unsigned_abs z % 10 ^ 6)

-- A `v` line.
abbrev pub position_text : (position : Position) → Bytes
position_text position = VERTEX ∷ flat_map (λ z. SPACE ∷ micro_text z) position ++ LINE_FEED ∷ []

-- An `f` line: vertices count from 1.
abbrev pub face_text : (face : Face) → Bytes
face_text face = FACE ∷ flat_map (λ vertex. SPACE ∷ decimal (vertex + 1)) face ++ LINE_FEED ∷ []

-- All vertices, then all faces.
abbrev pub canonical_text : (s : FaceSet) → Bytes
canonical_text s = flat_map position_text s.pos ++ flat_map face_text s.faces
