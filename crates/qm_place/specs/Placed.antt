-- Tables that tell where the new points of a layout lie, as far as they are read.
use Rattle.std.specs.Prelude.{◌≡◌, ℕ, ◌-◌, ◌*◌, ◌/◌, ◌^◌, ◌<◌, ◌≤◌, length}
use Rattle.def_cut.specs.Grids.{patch_at}
use Rattle.def_layout.specs.Arcs.{long_at}
use Rattle.def_layout.specs.Lengths.{wide, high, AreLengths}
use Rattle.def_layout.specs.Layouts.{Layout, gluing_of}
use Rattle.def_remesh.specs.NewPoints.{lengths_in}
use Rattle.def_remesh.specs.Numberings.{AreRunStarts}
use Rattle.def_remesh.specs.Placings.{rim_at, spacing_in, IsRim, IsSpaced}
use Rattle.def_remesh.specs.declared.limits.TheConstants.{MAX_NEW_FACES}
use Rattle.def_remesh.specs.declared.places.PlaceTables.{PlaceTables}
use Rattle.def_written.specs.NewFaces.{face_count}
use Rattle.def_written.specs.Numbers.{vertices}
use Rattle.def_written.specs.Spacings.{IsSpacing}
use Rattle.qm_place.specs.Spots.{grid_point, HasEnds, IsSmall}

-- A patch has the size of its sides, and a cell for each place.
pub record IsSized (layout : Layout) (patch : ℕ) : Type 0 where
  pub width : (patch_at layout.patches patch).w ≡ wide (gluing_of layout) (long_at layout.arcs) patch
  pub height : (patch_at layout.patches patch).h ≡ high (gluing_of layout) (long_at layout.arcs) patch
  pub some : 0 < wide (gluing_of layout) (long_at layout.arcs) patch
  pub tall : 0 < high (gluing_of layout) (long_at layout.arcs) patch
  pub few_columns : wide (gluing_of layout) (long_at layout.arcs) patch ≤ 2 ^ 21
  pub few_rows : high (gluing_of layout) (long_at layout.arcs) patch ≤ 2 ^ 21
  pub cells : length (patch_at layout.patches patch).cells
      ≡ (patch_at layout.patches patch).h * (patch_at layout.patches patch).w

-- The tables tell where the points of the layout lie, with the lengths that they hold. Its arcs are short, and a place
-- before the end of one lies on one of its darts.
pub record ArePlaced (layout : Layout) (tables : PlaceTables) : Type 0 where
  pub arcs : (arc : ℕ) → arc < length layout.arcs → long_at layout.arcs arc ≤ 2 ^ 21
  pub darts : (arc k : ℕ) → arc < length layout.arcs → k < lengths_in tables.lengths.items arc
      → k * long_at layout.arcs arc / lengths_in tables.lengths.items arc < long_at layout.arcs arc
  pub patches : (patch : ℕ) → patch < length layout.patches → IsSized layout patch
  pub long : length tables.lengths.items ≡ length layout.arcs
  pub lengths : AreLengths (gluing_of layout) (lengths_in tables.lengths.items)
  pub few : vertices (gluing_of layout) (lengths_in tables.lengths.items) ≤ 2 ^ 23
  pub few_faces : face_count (gluing_of layout) (lengths_in tables.lengths.items) ≤ MAX_NEW_FACES
  pub short : (arc : ℕ) → arc < length layout.arcs → lengths_in tables.lengths.items arc ≤ 2 ^ 24
  pub narrow : (patch : ℕ) → patch < length layout.patches
      → wide (gluing_of layout) (lengths_in tables.lengths.items) patch ≤ 2 ^ 21
  pub low : (patch : ℕ) → patch < length layout.patches
      → high (gluing_of layout) (lengths_in tables.lengths.items) patch ≤ 2 ^ 21
  pub along : AreRunStarts (λ a. lengths_in tables.lengths.items a - 1) (length layout.arcs) tables.along.begin.items
  pub inside : AreRunStarts
      (λ p. (wide (gluing_of layout) (lengths_in tables.lengths.items) p - 1)
      * (high (gluing_of layout) (lengths_in tables.lengths.items) p - 1))
      (length layout.patches) tables.inside.begin.items
  pub spaced : IsSpaced layout (lengths_in tables.lengths.items) tables.spaced
  pub spacing : IsSpacing (gluing_of layout) (long_at layout.arcs) (lengths_in tables.lengths.items)
      (spacing_in layout tables)
  pub rimmed : length tables.rims.items ≡ length layout.patches
  pub rims : (patch : ℕ) → patch < length layout.patches
      → IsRim layout (lengths_in tables.lengths.items) (spacing_in layout tables) patch (rim_at tables.rims.items patch)
      tables.parameters.items
  pub ends : (patch : ℕ) → patch < length layout.patches
      → HasEnds layout (lengths_in tables.lengths.items) (spacing_in layout tables) patch
  pub small : (patch i j : ℕ) → patch < length layout.patches
      → i ≤ wide (gluing_of layout) (lengths_in tables.lengths.items) patch
      → j ≤ high (gluing_of layout) (lengths_in tables.lengths.items) patch
      → IsSmall (grid_point layout (lengths_in tables.lengths.items) (spacing_in layout tables) patch i j)
