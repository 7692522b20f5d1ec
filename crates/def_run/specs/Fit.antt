-- What `fit` means: a remesh over any cut with any wishes.
use Rattle.std.specs.Prelude.{◌≡◌, ◌⊎◌, ℕ, Bool, List, Ok, Err}
use Rattle.def_fit.specs.Aims.{AreAimedNear}
use Rattle.def_fit.specs.FitTasks.{Asides, asides_in, fit_task}
use Rattle.def_fit.specs.declared.fit.Aim.{Aim}
use Rattle.def_fit.specs.declared.fit.Fit.{Fit as AnyFit}
use Rattle.def_io.specs.Bytes.{Bytes, Told}
use Rattle.def_layout.specs.FaceLayouts.{IsCutLayout}
use Rattle.def_layout.specs.Layouts.{Layout}
use Rattle.def_marks.specs.declared.fail.MarkFail.{MarkFail}
use Rattle.def_marks.specs.declared.fail.MarkFail.TheVariants as marks
use Rattle.def_metric.specs.Fails.{IsFar}
use Rattle.def_patches.specs.Chosen.{IsChosenCut}
use Rattle.def_remesh.specs.Tasks.{Task}
use Rattle.def_text.specs.FaceSet.{FaceSet}
use Rattle.def_run.specs.Mesh.{IsMeshText}
use Rattle.def_run.specs.Remesh.{Asks, HasFinished, HasTask, HoldsUntangled, RefusesTask}
use Rattle.def_run.specs.declared.answer.Answer.{Answer}
use Rattle.def_run.specs.declared.answer.Answer.TheVariants.{Syntax, Range, NotEdge, Tangled, Far}

-- `fit` asks for the chosen cut of the mesh, beside what the lines of the text say.
abbrev pub AsksToFit : (fit : AnyFit) → Asks
AsksToFit fit bytes soup task =
    (asides : Asides) × (cut : List Bool) × (asides_in fit bytes soup ≡ Ok asides)
    × IsChosenCut soup.faces asides.kept fit.patches cut × (task ≡ fit_task fit soup asides cut)

-- The wishes of a task for its layout add up to no more than the limit.
abbrev pub HasNearWishes : (aim : Aim) (soup : FaceSet) (task : Task) → Type 0
HasNearWishes aim soup task =
    (layout : Layout) → IsCutLayout soup.faces task.marks layout → AreAimedNear aim task.wish layout

-- The task is asked for where they do.
abbrev pub AsksForNearFit : (fit : AnyFit) → Asks
AsksForNearFit fit bytes soup task = AsksToFit fit bytes soup task × HasNearWishes fit.aim soup task

-- The bytes have a mesh, and this is the first refusal of the lines beside it.
pub record HasAsideFail (fit : AnyFit) (bytes : Bytes) (fail : MarkFail) : Type 0 where
  pub soup : FaceSet
  pub mesh : IsMeshText bytes soup
  pub said : asides_in fit bytes soup ≡ Err fail

-- Why a line beside a mesh is refused.
abbrev pub RefusesAsides : (fit : AnyFit) (bytes : Bytes) (answer : Answer) → Type 0
RefusesAsides fit bytes (Syntax line) = HasAsideFail fit bytes (marks.Syntax line)
RefusesAsides fit bytes (Range line) = HasAsideFail fit bytes (marks.Range line)
RefusesAsides fit bytes (NotEdge line) = HasAsideFail fit bytes (marks.NotEdge line)
RefusesAsides fit bytes _ = ⊥

-- The bytes have a mesh, and the wishes of what is asked of it add up to this sum.
pub record IsFarFit (fit : AnyFit) (bytes : Bytes) (sum : ℕ) : Type 0 where
  pub task : Task
  pub layout : Layout
  pub asked : HasTask (AsksToFit fit) bytes task layout
  pub unbounded : ¬ AreAimedNear fit.aim task.wish layout
  pub far : IsFar task.wish layout task.settings sum

-- The answer with which it refuses bytes: they have no mesh, or a line beside it is refused; a network that is too
-- tangled comes before wishes that are too great, and these before all that least lengths show.
abbrev pub RefusesFit : (fit : AnyFit) (bytes : Bytes) (answer : Answer) → Type 0
RefusesFit fit bytes (Far sum) = IsFarFit fit bytes sum
RefusesFit fit bytes (Tangled count) = RefusesTask (AsksToFit fit) bytes (Tangled count)
RefusesFit fit bytes answer = RefusesAsides fit bytes answer ⊎ RefusesTask (AsksForNearFit fit) bytes answer

-- The bytes have a mesh, no line beside it that is asked for is refused, and their wishes are not too great.
pub record HasNearAsides (fit : AnyFit) (bytes : Bytes) : Type 0 where
  pub soup : FaceSet
  pub mesh : IsMeshText bytes soup
  pub asides : Asides
  pub said : asides_in fit bytes soup ≡ Ok asides
  pub near : (task : Task) → AsksToFit fit bytes soup task → HasNearWishes fit.aim soup task

-- So they have, and what is asked of the mesh is finished whatever least lists are kept.
pub record HasFit (fit : AnyFit) (bytes : Bytes) : Type 0 where
  pub asides : HasNearAsides fit bytes
  pub finished : HasFinished (AsksToFit fit) bytes

-- A source that holds such bytes, with a network that is not too tangled.
pub record HoldsFit (fit : AnyFit) (left : Told) : Type 0 where
  pub held : HoldsUntangled (AsksToFit fit) left
  pub asides : HasNearAsides fit held.bytes
