-- What is found of a text that is judged.
use Rattle.std.specs.Prelude.{◌≡◌, ℕ, ⊤}
use Rattle.def_certtext.specs.CertLines.{used}
use Rattle.def_flow.specs.Admissible.{deviation, entries}
use Rattle.def_flow.specs.Network.{network}
use Rattle.def_io.specs.Bytes.{Bytes}
use Rattle.def_remesh.specs.Certified.{IsShown}
use Rattle.def_remesh.specs.CutSoups.{CutSoup}
use Rattle.def_remesh.specs.Tasks.{Task}
use Rattle.def_run.specs.Judging.{text_in, IsReason, Judged}
use Rattle.def_run.specs.declared.answer.Why.TheVariants as why
use Rattle.def_run.specs.declared.check_fail.CheckFail.{CheckFail}
use Rattle.def_run.specs.declared.check_fail.CheckFail.TheVariants.{NotAccepted, Memory}
use Rattle.qm_check.specs.declared.judging.Finished.{Finished}
use Rattle.qm_check.specs.declared.ready.Ready.{Ready}

-- The text from a line on, with what it is judged by.
abbrev pub judged_by : (bytes : Bytes) (line : ℕ) (cut : CutSoup) (task : Task) → Judged
judged_by bytes line cut task = record { bytes = bytes; line = line; soup = cut.soup; layout = cut.layout; task = task }

-- A text finishes a task, with this new mesh and this deviation.
pub record Finishes (task : Task) (ready : Ready) (text : Bytes) (finished : Finished) : Type 0 where
  pub shown : IsShown task ready.cut.soup text
  pub layout_is : shown.finished.layout ≡ ready.cut.layout
  pub new : finished.new ≡ record {
    soup = ready.cut.soup;
    layout = shown.finished.layout;
    lengths = (used shown.finished.certificates).x;
    shares = task.shares;
  }
  pub deviates : finished.deviation ≡ deviation (network ready.net) (entries (used shown.finished.certificates).x)

-- Why a text finishes no task, where there is memory: what is told of it is so, and it does not. It is never that there
-- is no head line.
abbrev pub IsTextFail : (judged : Judged) (fail : CheckFail) → Type 0
IsTextFail judged (NotAccepted why.NoHead) = ⊥
IsTextFail judged (NotAccepted why.Head) = ⊥
IsTextFail judged (NotAccepted why) = IsReason judged why × (¬ IsShown judged.task judged.soup (text_in judged))
IsTextFail judged Memory = ⊤
IsTextFail judged _ = ⊥
