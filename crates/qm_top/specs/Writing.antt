-- What a command does that writes a new mesh.
use Rattle.std.specs.Prelude.{◌≡◌, ⊤}
use Rattle.def_io.specs.Bytes.{Bytes}
use Rattle.def_io.specs.Faults.{Rose}
use Rattle.def_io.specs.Moves.{Change, IsStill, Stream, took, TookPrefix}
use Rattle.def_layout.specs.Layouts.{Layout}
use Rattle.def_io.specs.declared.fails.WriteFail.TheVariants as writes
use Rattle.def_remesh.specs.Refusals.{IsLayoutFail}
use Rattle.qm_write.specs.declared.text.PutFail.{PutFail}
use Rattle.qm_write.specs.declared.text.PutFail.TheVariants as puts
use Rattle.def_remesh.specs.declared.kept.LayoutFail.{LayoutFail}
use Rattle.def_text.specs.FaceSet.{FaceSet}
use Rattle.qm_top.specs.declared.refusal.Refusal.{Refusal}
use Rattle.qm_top.specs.declared.refusal.Refusal.TheVariants.{Write}
use Rattle.qm_top.specs.declared.refusal.Refusal.TheVariants as refusals
use Rattle.def_layout.specs.FaceLayouts.{IsCutLayout}
use Rattle.def_remesh.specs.Tasks.{Task}
use Rattle.def_run.specs.Remesh.{Asks}
use Rattle.remesh_laws.specs.Keeps.{ShowsTask}

-- The sink took a text that says this.
pub record WroteText (says : Bytes → Type 0) (out : Change) : Type 0 where
  pub text : Bytes
  pub said : says text
  pub written : out.told_now ≡ took out.told text

-- It failed, and took only a prefix of one.
pub record BrokeText (says : Bytes → Type 0) (out : Change) : Type 0 where
  pub text : Bytes
  pub said : says text
  pub prefix : TookPrefix out.told out.told_now text
  pub fault : Rose out.faults out.faults_now

-- Why no text was written whole. Where the sink did not fail it is as it was, and this is why.
abbrev pub IsUnwritten : {O : Type 0} (says : Bytes → Type 0) (why : Refusal → Type 0) (out : Stream O)
    (refusal : Refusal) → Type 0
IsUnwritten says why out (Write fail) = BrokeText says out.change
IsUnwritten says why out refusal = IsStill out × why refusal

-- A layout is refused, or memory was wanting.
abbrev pub IsOfLayout : (fails : LayoutFail → Type 0) (refusal : Refusal) → Type 0
IsOfLayout fails (refusals.Layout fail) = fails fail
IsOfLayout fails refusals.Memory = ⊤
IsOfLayout fails _ = ⊥

-- Why a task of a soup is not finished: its layout is refused.
abbrev pub FailsTask : (task : Task) (soup : FaceSet) (failed : LayoutFail) → Type 0
FailsTask task soup failed =
    (layout : Layout) × IsCutLayout soup.faces task.marks layout
    × IsLayoutFail task.wish layout task.settings task.rising failed

-- A text that finishes a task which is asked of these bytes and their soup.
abbrev pub ShowsAsked : (asks : Asks) (bytes : Bytes) (soup : FaceSet) (text : Bytes) → Type 0
ShowsAsked asks bytes soup text = (task : Task) × asks bytes soup task × ShowsTask task soup text

-- Why such a task is not finished.
abbrev pub FailsAsked : (asks : Asks) (bytes : Bytes) (soup : FaceSet) (failed : LayoutFail) → Type 0
FailsAsked asks bytes soup failed = (task : Task) × asks bytes soup task × FailsTask task soup failed

-- The refusal of a text that was not put whole.
abbrev pub refusal_of_put : (fail : PutFail) → Refusal
refusal_of_put puts.Stopped = Write writes.Fault
refusal_of_put puts.Memory = refusals.Memory
