-- The unit cells of the patches of a gluing with lengths, and their darts.
use Rattle.std.specs.Prelude.{ℕ, ◌+◌, ◌-◌, ◌<◌}
use Rattle.def_layout.specs.Gluings.{Way, south, east, north, west, side_after, side_before, Gluing, Slot}
use Rattle.def_layout.specs.Lengths.{Lengths, reach, wide, high}

-- A side of the cell in column i and row j of a patch. It runs round the cell counter-clockwise.
pub record CellDart : Type 0 where
  pub patch : ℕ
  pub i : ℕ
  pub j : ℕ
  pub way : Way

-- A dart of a gluing with these lengths.
pub record IsDart (gluing : Gluing) (lengths : Lengths) (d : CellDart) : Type 0 where
  pub patch_low : d.patch < gluing.patches
  pub i_low : d.i < wide gluing lengths d.patch
  pub j_low : d.j < high gluing lengths d.patch

-- The dart with these parts.
abbrev pub dart : (patch i j : ℕ) (way : Way) → CellDart
dart patch i j way = record { patch = patch; i = i; j = j; way = way }

-- The next dart round the cell.
abbrev pub next : (d : CellDart) → CellDart
next d = dart d.patch d.i d.j (side_after d.way)

-- The dart before it.
abbrev pub prev : (d : CellDart) → CellDart
prev d = dart d.patch d.i d.j (side_before d.way)

-- The border dart of a patch at a place of a side, counted along the side.
abbrev pub dart_along : (gluing : Gluing) (lengths : Lengths) (patch : ℕ) (side : Way) (place : ℕ) → CellDart
dart_along gluing lengths patch south place = dart patch place 0 south
dart_along gluing lengths patch east place = dart patch (wide gluing lengths patch - 1) place east
dart_along gluing lengths patch north place =
    dart patch (wide gluing lengths patch - 1 - place) (high gluing lengths patch - 1) north
dart_along gluing lengths patch west place = dart patch 0 (high gluing lengths patch - 1 - place) west

-- The border dart that lies `offset` after the beginning of a slot's arc.
abbrev pub slot_dart : (gluing : Gluing) (lengths : Lengths) (slot : Slot) (offset : ℕ) → CellDart
slot_dart gluing lengths slot offset =
    dart_along gluing lengths slot.patch slot.side (reach gluing lengths slot.patch slot.side slot.at + offset)
