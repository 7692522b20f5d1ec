-- What a command does with a mesh that wishes for lengths which may be too great.
use Rattle.std.specs.Prelude.{ℕ, ⊤}
use Rattle.def_fit.specs.Aims.{AreAimedNear}
use Rattle.def_fit.specs.declared.fit.Aim.{Aim}
use Rattle.def_io.specs.Bytes.{Bytes}
use Rattle.def_layout.specs.FaceLayouts.{IsCutLayout}
use Rattle.def_layout.specs.Layouts.{Layout}
use Rattle.def_metric.specs.Fails.{IsFar}
use Rattle.def_remesh.specs.Tasks.{Task}
use Rattle.def_remesh.specs.declared.kept.LayoutFail.{LayoutFail}
use Rattle.def_remesh.specs.declared.kept.LayoutFail.TheVariants.{Tangled, Memory}
use Rattle.def_run.specs.Remesh.{Asks}
use Rattle.def_text.specs.FaceSet.{FaceSet}
use Rattle.qm_top.specs.Writing.{FailsAsked, IsOfLayout}
use Rattle.qm_top.specs.declared.refusal.Refusal.{Refusal}
use Rattle.qm_top.specs.declared.refusal.Refusal.TheVariants.{Far}

-- Why no task of a soup is finished: its network is too tangled, or its wishes are not too great and it fails.
abbrev pub FailsNear : (asks near : Asks) (bytes : Bytes) (soup : FaceSet) (failed : LayoutFail) → Type 0
FailsNear asks near bytes soup (Tangled count) = FailsAsked asks bytes soup (Tangled count)
FailsNear asks near bytes soup Memory = ⊤
FailsNear asks near bytes soup failed = FailsAsked near bytes soup failed

-- The wishes of a task of a soup add up to this sum, which is too great.
pub record IsFarTask (aim : Aim) (asks : Asks) (bytes : Bytes) (soup : FaceSet) (sum : ℕ) : Type 0 where
  pub task : Task
  pub asked : asks bytes soup task
  pub layout : Layout
  pub cut : IsCutLayout soup.faces task.marks layout
  pub unbounded : ¬ AreAimedNear aim task.wish layout
  pub far : IsFar task.wish layout task.settings sum

-- Its wishes are too great, or its layout is refused, or memory was wanting.
abbrev pub IsOfWishes : (fails : LayoutFail → Type 0) (far : ℕ → Type 0) (refusal : Refusal) → Type 0
IsOfWishes fails far (Far sum) = far sum
IsOfWishes fails far refusal = IsOfLayout fails refusal
