-- The stepped mesh: blocks of three columns side by side, from four to eight cells high.
use Rattle.std.specs.Prelude.{ℕ, zero, suc, ◌+◌, ◌*◌, ◌/◌, ◌%◌, ◌^◌, nat_lt, pos, [], ◌∷◌, filter, length, map}
use Rattle.std.specs.List.{flat_map, range_with_len}
use Rattle.def_mesh.specs.Faces.{Face, Faces}
use Rattle.def_text.specs.FaceSet.{FaceSet}
use Rattle.def_text.specs.Text.{face_set, numbers_to}
use Rattle.def_text.specs.Types.{Position, Positions}
use Rattle.def_gen.specs.declared.TheConstants.{ADDEND, BLOCK_COLUMNS, FACTOR, GREATEST_HEIGHT, HEIGHTS, LEAST_HEIGHT}
use Rattle.def_gen.specs.declared.TheConstants.{LOW_STATES, STATES}

-- The state of the generator after so many steps from n.
abbrev pub state_after : (n steps : ℕ) → ℕ
state_after n zero = n
state_after n (suc steps) = (FACTOR * state_after n steps + ADDEND) % STATES

-- The height of a block, of n.
abbrev pub block_height : (n block : ℕ) → ℕ
block_height n block = LEAST_HEIGHT + (state_after n (suc block) / LOW_STATES) % HEIGHTS

-- The height of a column.
abbrev pub column_height : (n column : ℕ) → ℕ
column_height n column = block_height n (column / BLOCK_COLUMNS)

-- How many columns there are.
abbrev pub columns : (n : ℕ) → ℕ
columns n = BLOCK_COLUMNS * n

-- The number of a point of the grid over all columns, from 1, row by row from the south.
abbrev pub point_number : (n x y : ℕ) → ℕ
point_number n x y = y * (columns n + 1) + x + 1

-- The point in whole units, which are a million millionths.
abbrev pub whole_point : (x y : ℕ) → Position
whole_point x y = pos (x * 10 ^ 6) ∷ pos (y * 10 ^ 6) ∷ pos 0 ∷ []

-- The points of a row, and all of the grid.
abbrev pub row_points : (n y : ℕ) → Positions
row_points n y = map (λ x. whole_point x y) (range_with_len 0 (columns n + 1))

abbrev pub grid_points : (n : ℕ) → Positions
grid_points n = flat_map (row_points n) (range_with_len 0 (GREATEST_HEIGHT + 1))

-- The corners of a cell: south-west, south-east, north-east, north-west.
abbrev pub cell : (n column row : ℕ) → Face
cell n column row =
    point_number n column row ∷ point_number n (column + 1) row ∷ point_number n (column + 1) (row + 1)
    ∷ point_number n column (row + 1) ∷ []

-- The cells of a row: one in each column that is higher.
abbrev pub row_cells : (n row : ℕ) → Faces
row_cells n row =
    map (λ column. cell n column row)
    (filter (λ column. nat_lt row (column_height n column)) (range_with_len 0 (columns n)))

-- All cells, row by row.
abbrev pub cells : (n : ℕ) → Faces
cells n = flat_map (row_cells n) (range_with_len 0 GREATEST_HEIGHT)

-- The points of cells and the faces over them, as the text that has them in this order would have it.
abbrev pub steps_soup : (n : ℕ) → FaceSet
steps_soup n = record (face_set (grid_points n) (cells n)) {
  names = numbers_to (length (face_set (grid_points n) (cells n)).pos);
}
