-- The mesh that a layout with lengths gives, and why it may give none.
use Rattle.std.specs.Prelude.{◌≡◌, ◌⊎◌, ℕ, ◌<◌, ◌≤◌, Bool, List, length, ⊤}
use Rattle.def_mesh.specs.Faces.{Faces}
use Rattle.def_mesh.specs.Meshes.{IsMesh}
use Rattle.def_cut.specs.FullCut.{IsFullCut}
use Rattle.def_layout.specs.Arcs.{long_at}
use Rattle.def_layout.specs.FaceLayouts.{IsCutLayout}
use Rattle.def_layout.specs.Gluings.{Gluing}
use Rattle.def_layout.specs.Lengths.{Lengths}
use Rattle.def_layout.specs.Layouts.{Layout, gluing_of, vertex_at}
use Rattle.def_written.specs.Edges.{IsFirstDoubled}
use Rattle.def_written.specs.Laws.{AreQuads}
use Rattle.def_written.specs.NewFaces.{face_count, new_faces}
use Rattle.def_written.specs.Numbers.{vertices}
use Rattle.def_written.specs.Shape.{KeepsShape}
use Rattle.def_remesh.specs.NewPoints.{multiple_of}
use Rattle.def_remesh.specs.declared.fail.StitchFail.{StitchFail}
use Rattle.def_remesh.specs.declared.fail.StitchFail.TheVariants.{TooFine, Doubled, Memory}
use Rattle.def_remesh.specs.declared.limits.TheConstants.{MAX_NEW_FACES}
use Rattle.def_remesh.specs.declared.new_mesh.NewMesh.{NewMesh}

-- Why a layout with lengths has no new mesh: it has too many faces; or, where it has not, an edge is doubled, at this
-- least pair of vertices. Want of memory says nothing of the lengths.
abbrev pub IsUnstitched : (gluing : Gluing) (lengths : Lengths) (fail : StitchFail) → Type 0
IsUnstitched gluing lengths (TooFine faces) =
    (faces ≡ face_count gluing lengths) × (MAX_NEW_FACES < face_count gluing lengths)
IsUnstitched gluing lengths (Doubled u v) =
    (face_count gluing lengths ≤ MAX_NEW_FACES) × IsFirstDoubled gluing lengths u v
IsUnstitched gluing lengths Memory = ⊤

-- All lengths are at least 3.
abbrev pub AreLong : (layout : Layout) (lengths : Lengths) → Type 0
AreLong layout lengths = (arc : ℕ) → arc < length layout.arcs → 3 ≤ lengths arc

-- All lengths are the old ones, so many times.
abbrev pub AreMultiples : (layout : Layout) (lengths : Lengths) → Type 0
AreMultiples layout lengths =
    (by : ℕ) × (0 < by) × ((arc : ℕ) → arc < length layout.arcs
    → lengths arc ≡ multiple_of by (long_at layout.arcs) arc)

-- Lengths that double no edge, whatever the layout.
abbrev pub AreSafe : (layout : Layout) (lengths : Lengths) → Type 0
AreSafe layout lengths = AreLong layout lengths ⊎ AreMultiples layout lengths

-- The new faces have the shape of each mesh that has this layout.
abbrev pub KeepsShapes : (layout : Layout) (lengths : Lengths) → Type 0
KeepsShapes layout lengths = (faces : Faces) (marks : List Bool) → IsMesh faces → AreQuads faces → IsFullCut faces marks
    → IsCutLayout faces marks layout
    → KeepsShape faces (new_faces (gluing_of layout) lengths) (length layout.nodes) (vertex_at layout)

-- The new mesh of a layout with lengths.
pub record IsNewMesh (layout : Layout) (lengths : Lengths) (mesh : NewMesh) : Type 0 where
  pub count : mesh.vertices ≡ vertices (gluing_of layout) lengths
  pub faces : mesh.faces.items ≡ new_faces (gluing_of layout) lengths
