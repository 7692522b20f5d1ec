-- Where the faces of a new mesh lie in the old one.
use Rattle.std.specs.Prelude.{ℕ, ◌+◌, ◌*◌, ◌/◌, List, [], ◌∷◌, map, Option, pos, ◌-ℤ◌}
use Rattle.def_cut.specs.Grids.{cell_of, patch_at}
use Rattle.def_layout.specs.Arcs.{long_at}
use Rattle.def_layout.specs.Cells.{CellDart}
use Rattle.def_layout.specs.Gluings.{Way, south, east, north, west}
use Rattle.def_layout.specs.Lengths.{Lengths, wide, high}
use Rattle.def_layout.specs.Layouts.{Layout, gluing_of}
use Rattle.def_written.specs.NewFaces.{column, dart_of, row}
use Rattle.def_written.specs.Places.{ONE, cell_at, parameter_u, parameter_v}
use Rattle.def_remesh.specs.Spaced.{spacing_by}
use Rattle.def_map.specs.declared.home.Home.{Home}
use Rattle.def_map.specs.declared.home.Seen.{Seen}

-- The parameters of a corner of cell (i, j) of a patch, the one where a side of the cell begins: from west to east,
abbrev pub corner_u : (layout : Layout) (shares : Option (List ℕ)) (new : Lengths) (patch i j : ℕ) (way : Way) → ℕ
corner_u layout shares new patch i j way =
    parameter_u (gluing_of layout) (long_at layout.arcs) new (spacing_by layout shares new) patch (column i way)
    (row j way)

-- and from south to north.
abbrev pub corner_v : (layout : Layout) (shares : Option (List ℕ)) (new : Lengths) (patch i j : ℕ) (way : Way) → ℕ
corner_v layout shares new patch i j way =
    parameter_v (gluing_of layout) (long_at layout.arcs) new (spacing_by layout shares new) patch (column i way)
    (row j way)

-- The mean of the four corners, rounded down.
abbrev pub mean_corner : (at : Way → ℕ) → ℕ
mean_corner at = (at south + at east + at north + at west) / 4

-- The old column in which the cell has its middle: where that lies on a line of the grid, the one to its east.
abbrev pub home_column : (layout : Layout) (shares : Option (List ℕ)) (new : Lengths) (patch i j : ℕ) → ℕ
home_column layout shares new patch i j =
    cell_at (wide (gluing_of layout) (long_at layout.arcs) patch) (mean_corner (corner_u layout shares new patch i j))

-- The old row: where the middle lies on a line of the grid, the one to its north.
abbrev pub home_row : (layout : Layout) (shares : Option (List ℕ)) (new : Lengths) (patch i j : ℕ) → ℕ
home_row layout shares new patch i j =
    cell_at (high (gluing_of layout) (long_at layout.arcs) patch) (mean_corner (corner_v layout shares new patch i j))

-- A corner of the cell, as it is seen from there.
abbrev pub seen_corner : (layout : Layout) (shares : Option (List ℕ)) (new : Lengths) (patch i j : ℕ) (way : Way) → Seen
seen_corner layout shares new patch i j way = record {
  s = pos (corner_u layout shares new patch i j way) -ℤ pos (home_column layout shares new patch i j * ONE);
  t = pos (corner_v layout shares new patch i j way) -ℤ pos (home_row layout shares new patch i j * ONE);
}

-- Where cell (i, j) of a patch lies: the old face in which it has its middle, and its corners, as they are seen from
-- there.
abbrev pub home_of : (layout : Layout) (shares : Option (List ℕ)) (new : Lengths) (patch i j : ℕ) → Home
home_of layout shares new patch i j = record {
  dart = cell_of (patch_at layout.patches patch) (home_column layout shares new patch i j)
      (home_row layout shares new patch i j);
  corners = map (seen_corner layout shares new patch i j) (south ∷ east ∷ north ∷ west ∷ []);
}

-- Where the cell of a dart lies.
abbrev pub dart_home : (layout : Layout) (shares : Option (List ℕ)) (new : Lengths) (d : CellDart) → Home
dart_home layout shares new d = home_of layout shares new d.patch d.i d.j

-- Where the new face f lies.
abbrev pub home_at : (layout : Layout) (shares : Option (List ℕ)) (new : Lengths) (f : ℕ) → Home
home_at layout shares new f = dart_home layout shares new (dart_of (gluing_of layout) new f south)
