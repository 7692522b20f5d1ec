-- What `grids` means: the blocks of a chosen cut of a mesh. It refuses what `layout` refuses, and too many faces.
use Rattle.std.specs.Prelude.{ℕ, ◌≤◌}
use Rattle.def_cuttext.specs.GridsText.{IsGridsText}
use Rattle.def_io.specs.Bytes.{Bytes}
use Rattle.def_layout.specs.Layouts.{Layout}
use Rattle.def_patches.specs.declared.Keep.{Keep}
use Rattle.def_patches.specs.declared.Patches.{Patches}
use Rattle.def_remesh.specs.Refined.{refined_faces}
use Rattle.def_remesh.specs.declared.limits.TheConstants.{MAX_NEW_FACES}
use Rattle.def_run.specs.LayOut.{HasChosenLayout, HasKept, RefusesToLayOut}
use Rattle.def_run.specs.Refine.{IsTooFineBy}
use Rattle.def_run.specs.declared.answer.Answer.{Answer}
use Rattle.def_run.specs.declared.answer.Answer.TheVariants.{TooFine}

-- For these bytes it writes this text: that of the grids of the chosen cut, with each edge divided in so many.
pub record WritesGrids (keep : Keep) (patches : Patches) (by : ℕ) (bytes text : Bytes) : Type 0 where
  pub layout : Layout
  pub laid_out : HasChosenLayout keep patches bytes layout
  pub fits : refined_faces by layout ≤ MAX_NEW_FACES
  pub grids : IsGridsText keep patches by laid_out.has.soup layout text

-- It refuses these bytes with this answer: `layout` does, or the grids would have too many faces.
abbrev pub RefusesGrids : (keep : Keep) (patches : Patches) (by : ℕ) (bytes : Bytes) (answer : Answer) → Type 0
RefusesGrids keep patches by bytes (TooFine faces kept) =
    (layout : Layout) × HasChosenLayout keep patches bytes layout × IsTooFineBy by layout faces kept
RefusesGrids keep patches by bytes answer = RefusesToLayOut keep bytes answer

-- The bytes have a mesh, and the grids of its chosen cut have no more faces than a new mesh may have.
pub record HasGrids (keep : Keep) (patches : Patches) (by : ℕ) (bytes : Bytes) : Type 0 where
  pub has : HasKept keep bytes
  pub fits : (layout : Layout) → HasChosenLayout keep patches bytes layout → refined_faces by layout ≤ MAX_NEW_FACES
