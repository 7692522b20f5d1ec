-- The layouts of the mesh of bytes that are read: one for each cut that may be chosen.
use Rattle.std.specs.Prelude.{◌≡◌, Ok, Bool, List, Option}
use Rattle.def_cut.specs.FullCut.{IsFullCut}
use Rattle.def_cut.specs.Traced.{traced_marks}
use Rattle.def_fit.specs.FitTasks.{Asides, asides_in}
use Rattle.def_fit.specs.declared.fit.Fit.{Fit as AnyFit}
use Rattle.def_io.specs.Bytes.{Bytes}
use Rattle.def_layout.specs.FaceLayouts.{IsCutLayout}
use Rattle.def_layout.specs.Layouts.{Layout}
use Rattle.def_mesh.specs.Faces.{Faces}
use Rattle.def_patches.specs.Chosen.{IsChosenCut, IsChosenLayout}
use Rattle.def_patches.specs.declared.Patches.{Patches}
use Rattle.def_remesh.specs.LayoutLaws.{HasOneLayout}
use Rattle.def_remesh.specs.Tasks.{Task}
use Rattle.def_run.specs.Map.{asks_of}
use Rattle.def_run.specs.Mesh.{HasMesh, IsMeshText}
use Rattle.def_run.specs.Remesh.{HasTracedLayout}
use Rattle.def_run.specs.declared.command.Command.{Command}
use Rattle.def_text.specs.FaceSet.{FaceSet}

-- There is a layout to which the mesh of the bytes is cut by its motorcycle graph, which is a full cut, and no other.
pub record HasOneTraced (bytes : Bytes) : Type 0 where
  pub layout : Layout
  pub traced : HasTracedLayout bytes layout
  pub full : IsFullCut traced.soup.faces (traced_marks traced.soup.faces)
  pub alone : (other : Layout) → HasTracedLayout bytes other → other ≡ layout

-- The bytes of a mesh have exactly one layout.
abbrev pub OneTracedLaw : Type 0
OneTracedLaw = (bytes : Bytes) → HasMesh bytes → HasOneTraced bytes

-- There is a layout of the chosen cut, which is a full cut, and no other.
pub record HasOneChosen (faces : Faces) (kept : Option (List Bool)) (patches : Patches) : Type 0 where
  pub layout : Layout
  pub cut : List Bool
  pub chosen : IsChosenCut faces kept patches cut
  pub full : IsFullCut faces cut
  pub laid : IsCutLayout faces cut layout
  pub alone : (other : Layout) → IsChosenLayout faces kept patches other → other ≡ layout

-- The bytes of a mesh have exactly one layout for each fit, where no line that it looks at is refused.
abbrev pub OneChosenLaw : Type 0
OneChosenLaw = (fit : AnyFit) (bytes : Bytes) (soup : FaceSet) (asides : Asides) → IsMeshText bytes soup
    → asides_in fit bytes soup ≡ Ok asides → HasOneChosen soup.faces asides.kept fit.patches

-- The cut of each task that a command asks for is a full cut of the mesh of the bytes, and it has exactly one layout.
abbrev pub TaskLayoutLaw : Type 0
TaskLayoutLaw = (command : Command) (bytes : Bytes) (soup : FaceSet) (task : Task) → IsMeshText bytes soup
    → asks_of command bytes soup task → IsFullCut soup.faces task.marks × HasOneLayout soup.faces task.marks
