-- The new faces: the unit cells, patch by patch and row by row, with the numbers of their corners.
use Rattle.std.specs.Prelude.{ℕ, ◌+◌, ◌-◌, ◌*◌, ◌/◌, ◌%◌, [], ◌∷◌, map}
use Rattle.std.specs.List.{range_with_len}
use Rattle.def_math.specs.Counts.{count_below}
use Rattle.def_math.specs.Runs.{run_at}
use Rattle.def_mesh.specs.Faces.{Face, Faces}
use Rattle.def_layout.specs.Gluings.{Way, south, east, north, west, Gluing}
use Rattle.def_layout.specs.Lengths.{Lengths, wide, high}
use Rattle.def_layout.specs.Cells.{CellDart, next}
use Rattle.def_written.specs.Points.{Point, point}
use Rattle.def_written.specs.Numbers.{vertex_number}

-- The column of the corner where a side of a cell begins, which is that of the cell or the next one.
abbrev pub column : (i : ℕ) (way : Way) → ℕ
column i south = i
column i east = i + 1
column i north = i + 1
column i west = i

-- The row of the corner where a side of a cell begins.
abbrev pub row : (j : ℕ) (way : Way) → ℕ
row j south = j
row j east = j
row j north = j + 1
row j west = j + 1

-- The point where a dart begins.
abbrev pub dart_start : (gluing : Gluing) (lengths : Lengths) (d : CellDart) → Point
dart_start gluing lengths d = point gluing lengths d.patch (column d.i d.way) (row d.j d.way)

-- The point where it ends.
abbrev pub dart_end : (gluing : Gluing) (lengths : Lengths) (d : CellDart) → Point
dart_end gluing lengths d = dart_start gluing lengths (next d)

-- How many cells the patches before patch p have.
abbrev pub cells_before : (gluing : Gluing) (lengths : Lengths) (p : ℕ) → ℕ
cells_before gluing lengths p = count_below (λ q. wide gluing lengths q * high gluing lengths q) p

-- How many cells there are.
abbrev pub face_count : (gluing : Gluing) (lengths : Lengths) → ℕ
face_count gluing lengths = cells_before gluing lengths gluing.patches

-- The patch of cell f.
abbrev pub patch_of : (gluing : Gluing) (lengths : Lengths) (f : ℕ) → ℕ
patch_of gluing lengths f = run_at (cells_before gluing lengths) gluing.patches f

-- The place of cell f in its patch.
abbrev pub cell_in : (gluing : Gluing) (lengths : Lengths) (f : ℕ) → ℕ
cell_in gluing lengths f = f - cells_before gluing lengths (patch_of gluing lengths f)

-- A side of cell f.
abbrev pub dart_of : (gluing : Gluing) (lengths : Lengths) (f : ℕ) (way : Way) → CellDart
dart_of gluing lengths f w = record {
  patch = patch_of gluing lengths f;
  i = cell_in gluing lengths f % wide gluing lengths (patch_of gluing lengths f);
  j = cell_in gluing lengths f / wide gluing lengths (patch_of gluing lengths f);
  way = w;
}

-- The vertex at a corner of cell f.
abbrev pub cell_vertex : (gluing : Gluing) (lengths : Lengths) (f : ℕ) (way : Way) → ℕ
cell_vertex gluing lengths f w = vertex_number gluing lengths (dart_start gluing lengths (dart_of gluing lengths f w))

-- Face f.
abbrev pub new_face : (gluing : Gluing) (lengths : Lengths) (f : ℕ) → Face
new_face gluing lengths f =
    cell_vertex gluing lengths f south ∷ cell_vertex gluing lengths f east
    ∷ cell_vertex gluing lengths f north ∷ cell_vertex gluing lengths f west ∷ []

-- All faces.
abbrev pub new_faces : (gluing : Gluing) (lengths : Lengths) → Faces
new_faces gluing lengths = map (new_face gluing lengths) (range_with_len 0 (face_count gluing lengths))
