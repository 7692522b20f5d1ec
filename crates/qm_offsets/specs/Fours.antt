-- The tables of the four sides of a patch.
use Rattle.std.specs.Prelude.{◌≡◌, ℕ, List, [], length, map, slice_index_or}
use Rattle.def_layout.specs.Gluings.{Way}
use Rattle.def_layout.specs.Lengths.{Lengths}
use Rattle.def_layout.specs.Layouts.{Layout, way_number, side_at}
use Rattle.def_layout.specs.declared.tmesh.SideArc.{SideArc}
use Rattle.def_remesh.specs.Numberings.{sizes_on, AreRunStarts}
use Rattle.def_remesh.specs.declared.tables.RunStarts.{RunStarts}

-- Where the arcs on four sides begin.
abbrev pub begins_of : (four : List RunStarts) → List (List ℕ)
begins_of four = map (λ (starts : RunStarts). starts.begin.items) four

-- The arcs of a side, by the number of that.
abbrev pub arcs_on : (layout : Layout) (patch side : ℕ) → List SideArc
arcs_on layout patch side = slice_index_or (slice_index_or layout.sides patch []) side []

-- The table is that of a side of a patch.
abbrev pub IsTableOf : (layout : Layout) (lengths : Lengths) (patch side : ℕ) (table : List ℕ) → Type 0
IsTableOf layout lengths patch side table =
    AreRunStarts (sizes_on (arcs_on layout patch side) lengths) (length (arcs_on layout patch side)) table

-- The tables are those of the sides of a patch.
pub record AreFourStarts (layout : Layout) (lengths : Lengths) (patch : ℕ) (four : List (List ℕ)) : Type 0 where
  pub count : length four ≡ 4
  pub each : (side : Way)
      → AreRunStarts (sizes_on (side_at layout patch side) lengths) (length (side_at layout patch side))
      (slice_index_or four (way_number side) [])
