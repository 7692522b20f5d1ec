-- Sizes of sides and patches, as they are read from tables.
use Rattle.std.specs.Prelude.{◌≡◌, ℕ, ◌-◌, ◌*◌, ◌<◌, ◌≤◌, List, [], length, slice_index, slice_index_or, ⊤}
use Rattle.def_math.specs.Counts.{count_below}
use Rattle.def_math.specs.Runs.{run_at}
use Rattle.def_layout.specs.declared.tmesh.SideArc.{SideArc}
use Rattle.def_layout.specs.Lengths.{Lengths, AreLengths}
use Rattle.def_layout.specs.Layouts.{Layout, gluing_of}
use Rattle.def_layoutnet.specs.MeshLayouts.{IsSomeLayout}
use Rattle.def_written.specs.NewFaces.{face_count}
use Rattle.def_written.specs.Points.{Point, use_point}
use Rattle.def_layout.specs.Gluings.{Gluing}
use Rattle.def_remesh.specs.NewPoints.{lengths_in}
use Rattle.def_remesh.specs.Numberings.{sizes_on, used_at, SideTables}
use Rattle.def_remesh.specs.declared.fail.StitchFail.{StitchFail}
use Rattle.def_remesh.specs.declared.fail.StitchFail.TheVariants.{TooFine, Doubled, Memory}
use Rattle.def_remesh.specs.declared.limits.TheConstants.{MAX_NEW_FACES}

-- Lengths that give no more faces than a new mesh may have.
pub record IsFine (layout : Layout) (list : List ℕ) : Type 0 where
  pub mesh : IsSomeLayout layout
  pub long : length list ≡ length layout.arcs
  pub lengths : AreLengths (gluing_of layout) (lengths_in list)
  pub few : face_count (gluing_of layout) (lengths_in list) ≤ MAX_NEW_FACES

-- The layout with these lengths has so many faces, more than a new mesh may have.
abbrev pub IsTooFine : (gluing : Gluing) (lengths : Lengths) (fail : StitchFail) → Type 0
IsTooFine gluing lengths (TooFine faces) =
    (faces ≡ face_count gluing lengths) × (MAX_NEW_FACES < face_count gluing lengths)
IsTooFine gluing lengths (Doubled u v) = ⊥
IsTooFine gluing lengths Memory = ⊤

-- The table of a side.
abbrev pub table_in : (tables : SideTables) (patch side : ℕ) → List ℕ
table_in tables patch side = slice_index_or (slice_index_or tables patch []) side []

-- How long a side is, by its table.
abbrev pub long_by : (tables : SideTables) (patch side : ℕ) → ℕ
long_by tables patch side = slice_index (table_in tables patch side) (length (table_in tables patch side) - 1)

-- The product of width and height of a patch, each less so much.
abbrev pub product_by : (tables : SideTables) (less patch : ℕ) → ℕ
product_by tables less patch = (long_by tables patch 0 - less) * (long_by tables patch 3 - less)

-- The tables say how long each side is.
pub record AreRows (tables : SideTables) (less : ℕ) : Type 0 where
  pub four : (patch : ℕ) → patch < length tables → length (slice_index_or tables patch []) ≡ 4
  pub some : (patch side : ℕ) → patch < length tables → side < 4 → 0 < length (table_in tables patch side)
  pub long : (patch side : ℕ) → patch < length tables → side < 4
      → (less ≤ long_by tables patch side) × (0 < long_by tables patch side)
  pub small : count_below (product_by tables less) (length tables) ≤ 2 * MAX_NEW_FACES * 2

-- The point at a place of a side.
abbrev pub point_on : (gluing : Gluing) (lengths : Lengths) (side : List SideArc) (place : ℕ) → Point
point_on gluing lengths side place =
    let at = run_at (count_below (sizes_on side lengths)) (length side) place in
    use_point gluing lengths (used_at side at) (place - count_below (sizes_on side lengths) at)
