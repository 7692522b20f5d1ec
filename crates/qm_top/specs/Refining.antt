-- What `refine` does with a mesh.
use Rattle.std.specs.Prelude.{◌≡◌, ◌≤◌, ℕ, None, ⊤}
use Rattle.def_io.specs.Bytes.{Bytes}
use Rattle.def_layout.specs.Arcs.{long_at}
use Rattle.def_layout.specs.Layouts.{Layout}
use Rattle.def_remesh.specs.CutSoups.{Regrid}
use Rattle.def_remesh.specs.NewPoints.{lengths_in, multiple_of}
use Rattle.def_remesh.specs.NewSoup.{new_soup}
use Rattle.def_remesh.specs.Placings.{IsMeshLayout}
use Rattle.def_remesh.specs.ReadAgain.{IsReadAgain}
use Rattle.def_remesh.specs.Refined.{refined_faces}
use Rattle.def_remesh.specs.Stitched.{KeepsShapes}
use Rattle.def_remesh.specs.declared.kept.LayoutFail.{LayoutFail}
use Rattle.def_remesh.specs.declared.kept.LayoutFail.TheVariants.{TooFine}
use Rattle.def_remesh.specs.declared.kept.LayoutFail.TheVariants as layouts
use Rattle.def_remesh.specs.declared.limits.TheConstants.{MAX_NEW_FACES}
use Rattle.def_run.specs.Refine.{IsRefined, IsTooFineBy}
use Rattle.def_run.specs.Remesh.{IsTracedLayout}
use Rattle.def_text.specs.FaceSet.{FaceSet}

-- A text of a refined mesh that is read again as this mesh.
pub record ShowsRefined (by : ℕ) (soup : FaceSet) (text : Bytes) : Type 0 where
  pub refined : IsRefined by soup text
  pub read : IsReadAgain text (new_soup soup refined.layout (multiple_of by (long_at refined.layout.arcs)))

-- The new mesh of a soup with each edge divided in so many.
pub record IsRefinedMesh (by : ℕ) (soup : FaceSet) (new : Regrid) : Type 0 where
  pub same : new.soup ≡ soup
  pub laid : IsMeshLayout soup.faces new.layout
  pub cut : IsTracedLayout soup.faces new.layout
  pub lengths : lengths_in new.lengths ≡ multiple_of by (long_at new.layout.arcs)
  pub even : new.shares ≡ None
  pub fits : refined_faces by new.layout ≤ MAX_NEW_FACES
  pub shape : KeepsShapes new.layout (multiple_of by (long_at new.layout.arcs))

-- Why a layout is not refined, where there is memory: there would be too many faces.
abbrev pub FailsBy : (by : ℕ) (layout : Layout) (failed : LayoutFail) → Type 0
FailsBy by layout (TooFine faces kept) = IsTooFineBy by layout faces kept
FailsBy by layout layouts.Memory = ⊤
FailsBy by layout _ = ⊥

-- The same of a soup and its motorcycle graph.
abbrev pub FailsToRefine : (by : ℕ) (soup : FaceSet) (failed : LayoutFail) → Type 0
FailsToRefine by soup (TooFine faces kept) =
    (layout : Layout) × IsTracedLayout soup.faces layout × IsTooFineBy by layout faces kept
FailsToRefine by soup layouts.Memory = ⊤
FailsToRefine by soup _ = ⊥
