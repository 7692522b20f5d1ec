-- When tables tell the places of the points of a layout with lengths.
use Rattle.std.specs.Prelude.{◌≡◌, ℕ, ◌+◌, ◌-◌, ◌*◌, ◌<◌, ◌≤◌, List, [], length, slice_index, slice_index_or}
use Rattle.std.specs.Prelude.{ℤ, pos, ◌≤ℤ◌, true, Option, None, Some}
use Rattle.def_mesh.specs.Faces.{Faces}
use Rattle.def_layout.specs.Arcs.{long_at}
use Rattle.def_layout.specs.Gluings.{Way, south, east, north, west}
use Rattle.def_layout.specs.Lengths.{Lengths, size, wide, high, AreLengths}
use Rattle.def_layout.specs.Layouts.{Layout, gluing_of}
use Rattle.def_layoutnet.specs.MeshLayouts.{IsSomeLayout}
use Rattle.def_text.specs.Types.{Position, Positions}
use Rattle.def_written.specs.NewFaces.{face_count}
use Rattle.def_written.specs.Numbers.{before_arc}
use Rattle.def_written.specs.Places.{parameter, parameter_back, ArcSpacing}
use Rattle.def_remesh.specs.NewPoints.{lengths_in}
use Rattle.def_remesh.specs.Numberings.{AreRunStarts}
use Rattle.def_remesh.specs.Spaced.{spacing_by}
use Rattle.def_remesh.specs.declared.limits.TheConstants.{MAX_NEW_FACES}
use Rattle.def_remesh.specs.declared.places.Rim.{Rim}
use Rattle.def_remesh.specs.declared.places.PlaceTables.{PlaceTables}
use Rattle.def_remesh.specs.declared.places.Spaced.{Spaced}

-- The layout of this mesh and some full cut of it.
abbrev pub IsMeshLayout : (faces : Faces) (layout : Layout) → Type 0
IsMeshLayout faces layout = (is : IsSomeLayout layout) × (is.faces ≡ faces)

-- The shares of a spacing that is by shares.
abbrev pub shares_in : (spaced : Option Spaced) → Option (List ℕ)
shares_in None = None
shares_in (Some spaced) = Some spaced.shares

-- The parameter of each inner point of the arcs, from the beginning of its arc, stands in the list.
pub record AreSpaced (layout : Layout) (new : Lengths) (spacing : ArcSpacing) (parameters : List ℕ) : Type 0 where
  pub long : length parameters ≡ before_arc new (length layout.arcs)
  pub each : (arc k : ℕ) → arc < length layout.arcs → 0 < k → k < new arc
      → slice_index parameters (before_arc new arc + k - 1) ≡ spacing.parameter_of arc true k

-- So it is where the spacing is by shares.
abbrev pub IsSpaced : (layout : Layout) (new : Lengths) (spaced : Option Spaced) → Type 0
IsSpaced layout new spaced = (table : Spaced) → spaced ≡ Some table
    → AreSpaced layout new (spacing_by layout (Some table.shares) new) table.parameters.items

-- The parameter of a place of a side, from west to east or from south to north.
abbrev pub side_parameter : (layout : Layout) (new : Lengths) (spacing : ArcSpacing) (patch : ℕ) (side : Way)
    (place : ℕ)
    → ℕ
side_parameter layout new spacing patch south place =
    parameter (gluing_of layout) (long_at layout.arcs) new spacing patch south place
side_parameter layout new spacing patch east place =
    parameter (gluing_of layout) (long_at layout.arcs) new spacing patch east place
side_parameter layout new spacing patch north place =
    parameter_back (gluing_of layout) (long_at layout.arcs) new spacing patch north place
side_parameter layout new spacing patch west place =
    parameter_back (gluing_of layout) (long_at layout.arcs) new spacing patch west place

-- Where the parameters of a side begin: those of the four sides stand one after the other.
abbrev pub parameters_from : (rim : Rim) (side : Way) → ℕ
parameters_from rim south = rim.begin
parameters_from rim east = rim.begin + rim.wide
parameters_from rim north = rim.begin + rim.wide + rim.high
parameters_from rim west = rim.begin + rim.wide + rim.high + rim.wide

-- The parameters of the places of a side stand in the list, from here on.
pub record AreParameters (layout : Layout) (new : Lengths) (spacing : ArcSpacing) (patch : ℕ) (side : Way) (begin : ℕ)
    (parameters : List ℕ) : Type 0 where
  pub room : begin + size (gluing_of layout) new patch side ≤ length parameters
  pub each : (place : ℕ) → place < size (gluing_of layout) new patch side
      → slice_index parameters (begin + place)
      ≡ side_parameter layout new spacing patch side place

-- The new size of a patch, and the parameters of its sides.
pub record IsRim (layout : Layout) (new : Lengths) (spacing : ArcSpacing) (patch : ℕ) (rim : Rim) (parameters : List ℕ)
    : Type 0 where
  pub wide : rim.wide ≡ wide (gluing_of layout) new patch
  pub high : rim.high ≡ high (gluing_of layout) new patch
  pub sides : (side : Way) → AreParameters layout new spacing patch side (parameters_from rim side) parameters

abbrev pub rim_at : (rims : List Rim) (patch : ℕ) → Rim
rim_at rims patch = slice_index_or rims patch (record { wide = 0; high = 0; begin = 0 })

-- The spacing of the points whose places they tell.
abbrev pub spacing_in : (layout : Layout) (tables : PlaceTables) → ArcSpacing
spacing_in layout tables = spacing_by layout (shares_in tables.spaced) (lengths_in tables.lengths.items)

-- The tables tell the places of the points of the layout of a mesh, with the lengths that they hold.
pub record ArePlaces (faces : Faces) (layout : Layout) (tables : PlaceTables) : Type 0 where
  pub laid_out : IsMeshLayout faces layout
  pub long : length tables.lengths.items ≡ length layout.arcs
  pub lengths : AreLengths (gluing_of layout) (lengths_in tables.lengths.items)
  pub few : face_count (gluing_of layout) (lengths_in tables.lengths.items) ≤ MAX_NEW_FACES
  pub along : AreRunStarts (λ a. lengths_in tables.lengths.items a - 1) (length layout.arcs) tables.along.begin.items
  pub inside : AreRunStarts
      (λ p. (wide (gluing_of layout) (lengths_in tables.lengths.items) p - 1)
      * (high (gluing_of layout) (lengths_in tables.lengths.items) p - 1))
      (length layout.patches) tables.inside.begin.items
  pub spaced : IsSpaced layout (lengths_in tables.lengths.items) tables.spaced
  pub rimmed : length tables.rims.items ≡ length layout.patches
  pub rims : (patch : ℕ) → patch < length layout.patches
      → IsRim layout (lengths_in tables.lengths.items) (spacing_in layout tables) patch (rim_at tables.rims.items patch)
      tables.parameters.items

-- A coordinate of a position: 0, 1 and 2 are the axes.
abbrev pub coordinate_in : (position : Position) (axis : ℕ) → ℤ
coordinate_in position axis = slice_index_or position axis (pos 0)

-- Each coordinate of a position lies between the least and the greatest of these positions.
abbrev pub LiesBetween : (places : Positions) (position : Position) → Type 0
LiesBetween places position = (axis : ℕ) → axis < 3 → (least greatest : ℤ)
    → ((v : ℕ) → v < length places → (least ≤ℤ coordinate_in (slice_index_or places v []) axis)
    × (coordinate_in (slice_index_or places v []) axis ≤ℤ greatest))
    → (least ≤ℤ coordinate_in position axis) × (coordinate_in position axis ≤ℤ greatest)
