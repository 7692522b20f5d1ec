-- The borders of patches, side by side.
use Rattle.std.specs.Prelude.{ℕ, ◌-◌}
use Rattle.def_mesh.specs.HalfEdges.{HalfEdges}
use Rattle.def_cut.specs.Grids.{Rectangle, cell_of}
use Rattle.def_layout.specs.Gluings.{Way, south, east, north, west}

-- How many cells a side has.
abbrev pub side_size : (patch : Rectangle) (side : Way) → ℕ
side_size patch south = patch.w
side_size patch east = patch.h
side_size patch north = patch.w
side_size patch west = patch.h

-- The dart on the border of a patch at a place of a side, counted along the side.
abbrev pub border_dart : (mesh : HalfEdges) (patch : Rectangle) (side : Way) (place : ℕ) → ℕ
border_dart mesh patch south place = cell_of patch place 0
border_dart mesh patch east place = mesh.next (cell_of patch (patch.w - 1) place)
border_dart mesh patch north place = mesh.next (mesh.next (cell_of patch (patch.w - 1 - place) (patch.h - 1)))
border_dart mesh patch west place = mesh.prev (cell_of patch 0 (patch.h - 1 - place))
