-- The points of a block: the vertices of the new mesh on its grid and along its sides.
use Rattle.std.specs.Prelude.{ℕ, ◌-◌}
use Rattle.def_layout.specs.Gluings.{Gluing}
use Rattle.def_layout.specs.Lengths.{Lengths, wide, high}
use Rattle.def_written.specs.Numbers.{vertex_number}
use Rattle.def_written.specs.Points.{point}
use Rattle.def_blocks.specs.declared.link.SideName.{SideName}
use Rattle.def_blocks.specs.declared.link.SideName.TheVariants.{South, East, North, West}

-- The vertex at grid point (i, j) of a block: i counts from the west, j from the south.
abbrev pub grid_vertex : (gluing : Gluing) (lengths : Lengths) (block i j : ℕ) → ℕ
grid_vertex gluing lengths block i j = vertex_number gluing lengths (point gluing lengths block i j)

-- The vertex at a point of a side. Sides run counter-clockwise: south eastwards, east northwards, and so on.
abbrev pub side_vertex : (gluing : Gluing) (lengths : Lengths) (block : ℕ) (side : SideName) (at : ℕ) → ℕ
side_vertex gluing lengths block South at = grid_vertex gluing lengths block at 0
side_vertex gluing lengths block East at = grid_vertex gluing lengths block (wide gluing lengths block) at
side_vertex gluing lengths block North at =
    grid_vertex gluing lengths block (wide gluing lengths block - at) (high gluing lengths block)
side_vertex gluing lengths block West at = grid_vertex gluing lengths block 0 (high gluing lengths block - at)
