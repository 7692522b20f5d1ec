-- When tables number the points and the faces of a layout with lengths.
use Rattle.std.specs.Prelude.{◌≡◌, ℕ, ◌+◌, ◌-◌, ◌*◌, ◌<◌, ◌≤◌, true, List, [], length, map}
use Rattle.std.specs.Prelude.{slice_index, slice_index_or}
use Rattle.def_math.specs.Counts.{count_below}
use Rattle.def_layout.specs.declared.tmesh.SideArc.{SideArc}
use Rattle.def_layout.specs.Gluings.{Way}
use Rattle.def_layout.specs.Lengths.{Lengths, wide, high, AreLengths}
use Rattle.def_layout.specs.Layouts.{Layout, gluing_of, way_number, side_at}
use Rattle.def_layoutnet.specs.MeshLayouts.{IsSomeLayout}
use Rattle.def_written.specs.NewFaces.{face_count}
use Rattle.def_remesh.specs.NewPoints.{lengths_in}
use Rattle.def_remesh.specs.declared.limits.TheConstants.{MAX_NEW_FACES}
use Rattle.def_remesh.specs.declared.tables.RunStarts.{RunStarts}
use Rattle.def_remesh.specs.declared.tables.Tables.{Tables}

-- The table says where so many runs of these sizes begin, and where the last one ends.
pub record AreRunStarts (sizes : ℕ → ℕ) (runs : ℕ) (starts : List ℕ) : Type 0 where
  pub count : length starts ≡ runs + 1
  pub each : (k : ℕ) → k < runs + 1 → slice_index starts k ≡ count_below sizes k

-- The arc that a side uses at a place.
abbrev pub used_at : (side : List SideArc) (at : ℕ) → SideArc
used_at side at = slice_index_or side at (record { arc = 0; forward = true })

-- How long the arcs on a side are.
abbrev pub sizes_on : (side : List SideArc) (lengths : Lengths) (at : ℕ) → ℕ
sizes_on side lengths at = lengths (used_at side at).arc

-- Where the arcs begin on each side of each patch.
abbrev pub SideTables : Type 0
SideTables = List (List (List ℕ))

-- The tables of all sides, patch by patch.
abbrev pub tables_of : (sides : List (List RunStarts)) → SideTables
tables_of sides = map (λ four. map (λ (starts : RunStarts). starts.begin.items) four) sides

-- The table of a side of a patch.
abbrev pub table_at : (sides : SideTables) (patch : ℕ) (side : Way) → List ℕ
table_at sides patch side = slice_index_or (slice_index_or sides patch []) (way_number side) []

-- The tables say where the arcs on each side begin.
pub record AreSideStarts (layout : Layout) (lengths : Lengths) (sides : SideTables) : Type 0 where
  pub sided : length sides ≡ length layout.patches
  pub four : (patch : ℕ) → patch < length layout.patches → length (slice_index_or sides patch []) ≡ 4
  pub each : (patch : ℕ) (side : Way) → patch < length layout.patches
      → AreRunStarts (sizes_on (side_at layout patch side) lengths) (length (side_at layout patch side))
      (table_at sides patch side)

-- The tables number the points and the faces of the layout of a mesh, with the lengths that they hold.
pub record IsNumbering (layout : Layout) (tables : Tables) : Type 0 where
  pub mesh : IsSomeLayout layout
  pub long : length tables.lengths.items ≡ length layout.arcs
  pub lengths : AreLengths (gluing_of layout) (lengths_in tables.lengths.items)
  pub few : face_count (gluing_of layout) (lengths_in tables.lengths.items) ≤ MAX_NEW_FACES
  pub nodes : tables.nodes ≡ length layout.nodes
  pub along : AreRunStarts (λ a. lengths_in tables.lengths.items a - 1) (length layout.arcs) tables.along.begin.items
  pub inside : AreRunStarts
      (λ p. (wide (gluing_of layout) (lengths_in tables.lengths.items) p - 1)
      * (high (gluing_of layout) (lengths_in tables.lengths.items) p - 1))
      (length layout.patches) tables.inside.begin.items
  pub cells : AreRunStarts
      (λ p. wide (gluing_of layout) (lengths_in tables.lengths.items) p
      * high (gluing_of layout) (lengths_in tables.lengths.items) p)
      (length layout.patches) tables.cells.begin.items
  pub sides : AreSideStarts layout (lengths_in tables.lengths.items) (tables_of tables.sides.items)

-- The tables number the layout of some mesh.
pub record HoldsFor (tables : Tables) : Type 0 where
  pub layout : Layout
  pub numbers : IsNumbering layout tables
