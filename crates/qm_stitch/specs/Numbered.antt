-- Tables that number the points and the faces of a layout, as far as they are read.
use Rattle.std.specs.Prelude.{◌≡◌, ℕ, ◌-◌, ◌*◌, ◌^◌, ◌<◌, ◌≤◌, length}
use Rattle.def_layout.specs.Surfaces.{IsSurface}
use Rattle.def_layout.specs.Gluings.{Way}
use Rattle.def_layout.specs.Lengths.{size, wide, high, AreLengths}
use Rattle.def_layout.specs.Layouts.{Layout, gluing_of}
use Rattle.def_written.specs.Numbers.{vertices}
use Rattle.def_remesh.specs.NewPoints.{lengths_in}
use Rattle.def_remesh.specs.Numberings.{tables_of, AreRunStarts, AreSideStarts}
use Rattle.def_remesh.specs.declared.tables.Tables.{Tables}
use Rattle.def_known.specs.Sides.{AreSides}

-- The tables number the points and the faces of the layout, which is that of a surface, with the lengths that they
-- hold, and all numbers are small.
pub record AreTables (layout : Layout) (tables : Tables) : Type 0 where
  pub whole : AreSides layout
  pub laid : ∥ IsSurface (gluing_of layout) ∥₁
  pub long : length tables.lengths.items ≡ length layout.arcs
  pub lengths : AreLengths (gluing_of layout) (lengths_in tables.lengths.items)
  pub few : vertices (gluing_of layout) (lengths_in tables.lengths.items) ≤ 2 ^ 23
  pub short : (patch : ℕ) (side : Way) → patch < length layout.patches
      → size (gluing_of layout) (lengths_in tables.lengths.items) patch side ≤ 2 ^ 21
  pub nodes : tables.nodes ≡ length layout.nodes
  pub along : AreRunStarts (λ a. lengths_in tables.lengths.items a - 1) (length layout.arcs) tables.along.begin.items
  pub inside : AreRunStarts
      (λ p. (wide (gluing_of layout) (lengths_in tables.lengths.items) p - 1)
      * (high (gluing_of layout) (lengths_in tables.lengths.items) p - 1))
      (length layout.patches) tables.inside.begin.items
  pub cells : AreRunStarts
      (λ p. wide (gluing_of layout) (lengths_in tables.lengths.items) p
      * high (gluing_of layout) (lengths_in tables.lengths.items) p)
      (length layout.patches) tables.cells.begin.items
  pub sides : AreSideStarts layout (lengths_in tables.lengths.items) (tables_of tables.sides.items)
