-- A table of all darts in which the lengths of edges are put along paths.
use Rattle.std.specs.Prelude.{ℕ, List, slice_set, Option, Some, None}
use Rattle.std.specs.List.{fold}
use Rattle.def_layout.specs.declared.tmesh.TArc.{TArc}
use Rattle.def_mesh.specs.Darts.{twin_of}
use Rattle.def_mesh.specs.Faces.{Faces}
use Rattle.def_metric.specs.Targets.{edge_length}
use Rattle.def_text.specs.Types.{Positions}

-- The length of its edge stands at a dart.
abbrev pub with_dart : (faces : Faces) (places : Positions) (table : List ℕ) (dart : ℕ) → List ℕ
with_dart faces places table dart = slice_set table dart (edge_length faces places dart)

-- It stands at a twin, if there is one.
abbrev pub with_twin : (faces : Faces) (places : Positions) (table : List ℕ) (twin : Option ℕ) → List ℕ
with_twin faces places table None = table
with_twin faces places table (Some twin) = with_dart faces places table twin

-- It stands at each dart of an edge.
abbrev pub with_edge : (faces : Faces) (places : Positions) (table : List ℕ) (dart : ℕ) → List ℕ
with_edge faces places table dart =
    with_twin faces places (with_dart faces places table dart) (twin_of faces dart)

-- The lengths of the edges of a path stand at their darts.
abbrev pub with_path : (faces : Faces) (places : Positions) (table path : List ℕ) → List ℕ
with_path faces places table path = fold (with_edge faces places) table path

-- So do those along some arcs.
abbrev pub with_arcs : (faces : Faces) (places : Positions) (table : List ℕ) (arcs : List TArc) → List ℕ
with_arcs faces places table arcs = fold (λ t arc. with_path faces places t arc.darts.items) table arcs
