-- What a command means that remeshes: `remesh`, and each that takes another cut or wishes for other lengths.
use Rattle.std.specs.Prelude.{◌≡◌, ◌≤◌, ◌⊎◌, ℕ, Bool, Some, length, ⊤}
use Rattle.def_certtext.specs.declared.certs.Rising.{Rising}
use Rattle.def_cut.specs.Traced.{traced_marks}
use Rattle.def_flow.specs.declared.net.Settings.{Settings}
use Rattle.def_io.specs.Bytes.{Bytes, Told}
use Rattle.def_layout.specs.FaceLayouts.{IsCutLayout}
use Rattle.def_layout.specs.Layouts.{Layout}
use Rattle.def_mesh.specs.Faces.{Faces}
use Rattle.def_remesh.specs.Refusals.{IsDoubledBy, IsFineBy, IsRemeshable, IsTangledAt}
use Rattle.def_remesh.specs.Certified.{IsShown}
use Rattle.def_remesh.specs.Tasks.{remesh_task, Task, Wish}
use Rattle.def_text.specs.FaceSet.{FaceSet}
use Rattle.def_text.specs.declared.limits.TheConstants.{MAX_BYTES}
use Rattle.def_run.specs.Mesh.{IsMeshText, IsNoMesh}
use Rattle.def_run.specs.declared.answer.Answer.{Answer}
use Rattle.def_run.specs.declared.answer.Answer.TheVariants.{Done, Tangled, TooFine, Doubled}

-- The layout that the motorcycle graph of these faces cuts.
abbrev pub IsTracedLayout : (faces : Faces) (layout : Layout) → Type 0
IsTracedLayout faces layout = IsCutLayout faces (traced_marks faces) layout

-- The bytes have a mesh that is cut to this layout.
pub record HasTracedLayout (bytes : Bytes) (layout : Layout) : Type 0 where
  pub soup : FaceSet
  pub mesh : IsMeshText bytes soup
  pub cut : IsTracedLayout soup.faces layout

-- What a command asks for of bytes that have a soup.
abbrev pub Asks : Type 1
Asks = (bytes : Bytes) (soup : FaceSet) (task : Task) → Type 0

-- `remesh` asks for the motorcycle graph of the faces and for their old lengths.
abbrev pub AsksToRemesh : (settings : Settings) (auto : Bool) → Asks
AsksToRemesh settings auto bytes soup task = task ≡ remesh_task settings auto soup.faces

-- For these bytes it writes this text: that of a task of their mesh, which is finished, as accepted certificates show.
pub record WritesFinished (asks : Asks) (bytes text : Bytes) : Type 0 where
  pub soup : FaceSet
  pub mesh : IsMeshText bytes soup
  pub task : Task
  pub asked : asks bytes soup task
  pub shown : IsShown task soup text

-- The bytes have a mesh of which this task is asked, whose cut gives this layout.
pub record HasTask (asks : Asks) (bytes : Bytes) (task : Task) (layout : Layout) : Type 0 where
  pub soup : FaceSet
  pub mesh : IsMeshText bytes soup
  pub asked : asks bytes soup task
  pub cut : IsCutLayout soup.faces task.marks layout

-- Why a layout is not remeshed: its network is too tangled, or the kept lengths give too many faces or double an edge.
abbrev pub RefusesLayout :
    (wish : Wish) (layout : Layout) (settings : Settings) (rising : Rising) (answer : Answer) → Type 0
RefusesLayout wish layout settings rising (Tangled count) = IsTangledAt wish layout settings count
RefusesLayout wish layout settings rising (TooFine faces kept) = IsFineBy wish layout settings rising faces kept
RefusesLayout wish layout settings rising (Doubled u v cert) = IsDoubledBy wish layout settings rising u v cert
RefusesLayout wish layout settings rising _ = ⊥

-- It refuses these bytes with this answer: they have no mesh, or the layout of a task is refused.
abbrev pub RefusesTask : (asks : Asks) (bytes : Bytes) (answer : Answer) → Type 0
RefusesTask asks bytes answer =
    IsNoMesh bytes answer
    ⊎ ((task : Task) × (layout : Layout) × HasTask asks bytes task layout
    × RefusesLayout task.wish layout task.settings task.rising answer)

-- The bytes have a mesh, each task of which is finished whatever least lists are kept.
pub record HasFinished (asks : Asks) (bytes : Bytes) : Type 0 where
  pub soup : FaceSet
  pub mesh : IsMeshText bytes soup
  pub fits : (task : Task) (layout : Layout) → HasTask asks bytes task layout
      → IsRemeshable task.wish layout task.settings task.rising

-- A source that holds the bytes of a mesh, no task of which has a network that is too tangled.
pub record HoldsUntangled (asks : Asks) (left : Told) : Type 0 where
  pub bytes : Bytes
  pub held : left ≡ Some bytes
  pub within : length bytes ≤ MAX_BYTES
  pub soup : FaceSet
  pub mesh : IsMeshText bytes soup
  pub untangled : (task : Task) (layout : Layout) → HasTask asks bytes task layout → (count : ℕ)
      → ¬ IsTangledAt task.wish layout task.settings count

-- Least lengths were found: they are written, or they give too many faces or double an edge.
abbrev pub IsSettled : (answer : Answer) → Type 0
IsSettled Done = ⊤
IsSettled (TooFine faces kept) = ⊤
IsSettled (Doubled u v cert) = ⊤
IsSettled _ = ⊥
