-- The darts of a list of faces. Dart 4f + i runs along face f from its corner i to the next one.
use Rattle.std.specs.Prelude.{
  ◌≡◌,
  ℕ,
  ◌+◌,
  ◌-◌,
  ◌*◌,
  ◌/◌,
  ◌%◌,
  ◌<◌,
  Bool,
  cond,
  ◌&&◌,
  ◌==◌,
  List,
  length,
  find,
  Option,
  option_map,
}
use Rattle.std.specs.List.{range_with_len}
use Rattle.def_mesh.specs.Faces.{Faces, corner}

-- How many darts there are.
abbrev pub darts : (faces : Faces) → ℕ
darts faces = 4 * length faces

-- All darts, increasing.
abbrev pub all_darts : (faces : Faces) → List ℕ
all_darts faces = range_with_len 0 (darts faces)

-- The next dart round the face.
abbrev pub next_of : (d : ℕ) → ℕ
next_of d = cond (d % 4 == 3) (d - 3) (d + 1)

-- The dart before it.
abbrev pub prev_of : (d : ℕ) → ℕ
prev_of d = cond (d % 4 == 0) (d + 3) (d - 1)

-- The vertex where d begins.
abbrev pub from_of : (faces : Faces) (d : ℕ) → ℕ
from_of faces d = corner faces (d / 4) (d % 4)

-- The vertex where d ends.
abbrev pub to_of : (faces : Faces) (d : ℕ) → ℕ
to_of faces d = from_of faces (next_of d)

-- Whether e has the ends of d exchanged.
abbrev pub is_reverse : (faces : Faces) (d e : ℕ) → Bool
is_reverse faces d e = (from_of faces e == to_of faces d) && (to_of faces e == from_of faces d)

-- Dart e is a twin of d: a dart with the ends of d exchanged.
abbrev pub IsTwin : (faces : Faces) (d e : ℕ) → Type 0
IsTwin faces d e = (e < darts faces) × (from_of faces e ≡ to_of faces d) × (to_of faces e ≡ from_of faces d)

-- The twin of d, where its edge has two darts.
abbrev pub twin_of : (faces : Faces) (d : ℕ) → Option ℕ
twin_of faces d = find (is_reverse faces d) (all_darts faces)

-- The dart that leads straight on from the end of d, where there is one.
abbrev pub straight_of : (faces : Faces) (d : ℕ) → Option ℕ
straight_of faces d = option_map next_of (twin_of faces (next_of d))
