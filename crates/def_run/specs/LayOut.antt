-- What `layout` means: the text of a chosen cut of a mesh.
use Rattle.std.specs.Prelude.{◌≡◌, ◌⊎◌, Bool, List, Option, Ok, Err}
use Rattle.def_cuttext.specs.LayoutText.{layout_text}
use Rattle.def_fit.specs.FitTasks.{kept_in}
use Rattle.def_io.specs.Bytes.{Bytes}
use Rattle.def_layout.specs.Layouts.{Layout}
use Rattle.def_marks.specs.declared.fail.MarkFail.{MarkFail}
use Rattle.def_marks.specs.declared.fail.MarkFail.TheVariants as marks
use Rattle.def_patches.specs.Chosen.{IsChosenLayout}
use Rattle.def_patches.specs.declared.Keep.{Keep}
use Rattle.def_patches.specs.declared.Patches.{Patches}
use Rattle.def_text.specs.FaceSet.{FaceSet}
use Rattle.def_run.specs.Mesh.{IsMeshText, IsNoMesh}
use Rattle.def_run.specs.declared.answer.Answer.{Answer}
use Rattle.def_run.specs.declared.answer.Answer.TheVariants.{Syntax, Range, NotEdge}

-- The bytes have a mesh, and none of their `l` lines is refused, where they are kept.
pub record HasKept (keep : Keep) (bytes : Bytes) : Type 0 where
  pub soup : FaceSet
  pub mesh : IsMeshText bytes soup
  pub kept : Option (List Bool)
  pub said : kept_in keep bytes soup ≡ Ok kept

-- They are cut so to this layout.
pub record HasChosenLayout (keep : Keep) (patches : Patches) (bytes : Bytes) (layout : Layout) : Type 0 where
  pub has : HasKept keep bytes
  pub cut : IsChosenLayout has.soup.faces has.kept patches layout

-- For these bytes it writes this text: that of the layout of the chosen cut.
pub record WritesLayout (keep : Keep) (patches : Patches) (bytes text : Bytes) : Type 0 where
  pub layout : Layout
  pub laid_out : HasChosenLayout keep patches bytes layout
  pub said : text ≡ layout_text keep patches laid_out.has.soup laid_out.has.kept layout

-- The bytes have a mesh, and this is the first refusal of the lines that are kept.
pub record HasKeptFail (keep : Keep) (bytes : Bytes) (fail : MarkFail) : Type 0 where
  pub soup : FaceSet
  pub mesh : IsMeshText bytes soup
  pub said : kept_in keep bytes soup ≡ Err fail

-- Why a line that is kept is refused.
abbrev pub RefusesKept : (keep : Keep) (bytes : Bytes) (answer : Answer) → Type 0
RefusesKept keep bytes (Syntax line) = HasKeptFail keep bytes (marks.Syntax line)
RefusesKept keep bytes (Range line) = HasKeptFail keep bytes (marks.Range line)
RefusesKept keep bytes (NotEdge line) = HasKeptFail keep bytes (marks.NotEdge line)
RefusesKept keep bytes _ = ⊥

-- It refuses these bytes with this answer: they have no mesh, or a line that is kept is refused.
abbrev pub RefusesToLayOut : (keep : Keep) (bytes : Bytes) (answer : Answer) → Type 0
RefusesToLayOut keep bytes answer = IsNoMesh bytes answer ⊎ RefusesKept keep bytes answer
