-- What `refine` means.
use Rattle.std.specs.Prelude.{◌≡◌, ◌≤◌, ◌<◌, ℕ}
use Rattle.def_io.specs.Bytes.{Bytes}
use Rattle.def_layout.specs.Arcs.{long_at}
use Rattle.def_layout.specs.Layouts.{Layout, gluing_of, vertex_at}
use Rattle.def_remesh.specs.NewPoints.{multiple_of}
use Rattle.def_remesh.specs.Refined.{refined_faces, refined_text}
use Rattle.def_remesh.specs.declared.kept.Kept.{Kept}
use Rattle.def_remesh.specs.declared.kept.Kept.TheVariants.{Multiple}
use Rattle.def_remesh.specs.declared.limits.TheConstants.{MAX_NEW_FACES}
use Rattle.def_text.specs.FaceSet.{FaceSet}
use Rattle.def_written.specs.NewFaces.{new_faces}
use Rattle.def_written.specs.Shape.{KeepsShape}
use Rattle.def_run.specs.Mesh.{IsMeshText, IsNoMesh}
use Rattle.def_run.specs.Remesh.{HasTracedLayout, IsTracedLayout}
use Rattle.def_run.specs.declared.answer.Answer.{Answer}
use Rattle.def_run.specs.declared.answer.Answer.TheVariants.{TooFine}

-- A text of a refined mesh: a layout cuts the mesh into rectangular grids of its motorcycle graph; the text is that of
-- the mesh with `by` times the old lengths of the layout; and that mesh has the shape of the old one.
pub record IsRefined (by : ℕ) (soup : FaceSet) (text : Bytes) : Type 0 where
  pub layout : Layout
  pub cut : IsTracedLayout soup.faces layout
  pub fits : refined_faces by layout ≤ MAX_NEW_FACES
  pub written : text ≡ refined_text by soup layout
  pub shape : KeepsShape soup.faces (new_faces (gluing_of layout) (multiple_of by (long_at layout.arcs)))
      (gluing_of layout).nodes (vertex_at layout)

-- For these bytes it writes this text: that of their mesh, with each edge divided in so many.
pub record WritesRefined (by : ℕ) (bytes text : Bytes) : Type 0 where
  pub soup : FaceSet
  pub mesh : IsMeshText bytes soup
  pub refined : IsRefined by soup text

-- What is kept of the lengths is the multiple.
abbrev pub IsMultiple : (by : ℕ) (kept : Kept) → Type 0
IsMultiple by (Multiple kept) = kept ≡ by
IsMultiple by kept = ⊥

-- The refined mesh would have so many faces, which are too many.
pub record IsTooFineBy (by : ℕ) (layout : Layout) (faces : ℕ) (kept : Kept) : Type 0 where
  pub counted : faces ≡ refined_faces by layout
  pub many : MAX_NEW_FACES < faces
  pub multiple : IsMultiple by kept

-- It refuses these bytes with this answer: they have no mesh, or the new mesh would have too many faces.
abbrev pub RefusesToRefine : (by : ℕ) (bytes : Bytes) (answer : Answer) → Type 0
RefusesToRefine by bytes (TooFine faces kept) =
    (layout : Layout) × HasTracedLayout bytes layout × IsTooFineBy by layout faces kept
RefusesToRefine by bytes answer = IsNoMesh bytes answer

-- The bytes have a mesh whose refinement has no more faces than a new mesh may have.
pub record HasRefined (by : ℕ) (bytes : Bytes) : Type 0 where
  pub soup : FaceSet
  pub mesh : IsMeshText bytes soup
  pub fits : (layout : Layout) → HasTracedLayout bytes layout → refined_faces by layout ≤ MAX_NEW_FACES
