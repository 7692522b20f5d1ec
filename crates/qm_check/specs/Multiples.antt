-- A refined mesh.
use Rattle.std.specs.Prelude.{◌≡◌, ◌<◌, ◌≤◌, ℕ, None, ⊤}
use Rattle.def_layout.specs.Arcs.{long_at}
use Rattle.def_layout.specs.Layouts.{Layout}
use Rattle.def_remesh.specs.CutSoups.{CutSoup, Regrid}
use Rattle.def_remesh.specs.NewPoints.{lengths_in, multiple_of}
use Rattle.def_remesh.specs.Refined.{refined_faces}
use Rattle.def_remesh.specs.Stitched.{KeepsShapes}
use Rattle.def_remesh.specs.declared.limits.TheConstants.{MAX_NEW_FACES}
use Rattle.def_run.specs.declared.answer.Why.TheVariants as why
use Rattle.def_run.specs.declared.check_fail.CheckFail.{CheckFail}
use Rattle.def_run.specs.declared.check_fail.CheckFail.TheVariants.{NotAccepted, Memory}

-- The new mesh of a layout with a multiple of the old lengths: its faces are not too many, and keep the old shape.
pub record IsRefinedBy (by : ℕ) (cut : CutSoup) (new : Regrid) : Type 0 where
  pub soup : new.soup ≡ cut.soup
  pub layout : new.layout ≡ cut.layout
  pub lengths : lengths_in new.lengths ≡ multiple_of by (long_at cut.layout.arcs)
  pub shares : new.shares ≡ None
  pub shape : KeepsShapes cut.layout (multiple_of by (long_at cut.layout.arcs))
  pub few : refined_faces by cut.layout ≤ MAX_NEW_FACES

-- Why there is none, where there is memory: there are too many faces.
abbrev pub HasNoPoints : (by : ℕ) (layout : Layout) (fail : CheckFail) → Type 0
HasNoPoints by layout (NotAccepted (why.TooFine faces)) = (faces ≡ refined_faces by layout) × (MAX_NEW_FACES < faces)
HasNoPoints by layout Memory = ⊤
HasNoPoints by layout _ = ⊥
