-- What the text of a command is judged by, and why there is nothing to judge it by.
use Rattle.std.specs.Prelude.{◌≡◌, ◌≢◌, ℕ, true, ⊤}
use Rattle.def_certtext.specs.CertLines.{used}
use Rattle.def_flow.specs.Admissible.{deviation, entries}
use Rattle.def_flow.specs.Network.{Network}
use Rattle.def_io.specs.Bytes.{Bytes}
use Rattle.def_io.specs.Lines.{lines_of}
use Rattle.def_map.specs.MapText.{map_text}
use Rattle.def_marks.specs.declared.fail.MarkFail.TheVariants as mark_fail
use Rattle.def_remesh.specs.CutSoups.{Regrid}
use Rattle.def_remesh.specs.Keeping.{IsNetFor}
use Rattle.def_remesh.specs.NewPoints.{lengths_in}
use Rattle.def_remesh.specs.Tasks.{Task}
use Rattle.def_run.specs.Check.{head_of}
use Rattle.def_run.specs.Checking.{begins_fit}
use Rattle.def_run.specs.Map.{asks_of, RefusesNew, WritesMap, WritesNew}
use Rattle.def_run.specs.MapFails.{HasLineFail}
use Rattle.def_run.specs.MarkLines.{front_of, IsLastMark, IsMarkLine}
use Rattle.def_run.specs.Remesh.{WritesFinished}
use Rattle.def_run.specs.declared.answer.Answer.TheVariants as answers
use Rattle.def_run.specs.declared.check_fail.CheckFail.{CheckFail}
use Rattle.def_run.specs.declared.check_fail.CheckFail.TheVariants.{Marks, Tangled, Far, Memory}
use Rattle.def_run.specs.declared.command.Command.{Command}
use Rattle.def_text.specs.FaceSet.{FaceSet}
use Rattle.qm_certtext.specs.declared.last.HeadAt.{HeadAt}
use Rattle.qm_check.specs.Ready.{CutsAt, IsOld, IsReady}
use Rattle.qm_check.specs.declared.judging.Finished.{Finished}
use Rattle.qm_check.specs.declared.ready.Ready.{Ready}

-- A task that a command asks of a soup, and the only one.
pub record IsOnlyTask (command : Command) (front : Bytes) (soup : FaceSet) (task : Task) : Type 0 where
  pub asked : asks_of command front soup task
  pub alone : (other : Task) → asks_of command front soup other → other ≡ task

-- What is made ready for it.
pub record IsReadyFor (command : Command) (front : Bytes) (ready : Ready) : Type 0 where
  pub task : Task
  pub only : IsOnlyTask command front ready.cut.soup task
  pub holds : IsReady task ready

-- The command writes no text for this one.
abbrev pub NeverWrites : (command : Command) (front : Bytes) → Type 0
NeverWrites command front = (text : Bytes) → ¬ WritesNew command front text

-- Why nothing is made ready, where there is memory.
abbrev pub IsUnmade : (command : Command) (front : Bytes) (fail : CheckFail) → Type 0
IsUnmade command front (Tangled count) = RefusesNew command front (answers.Tangled count) × NeverWrites command front
IsUnmade command front (Far sum) = RefusesNew command front (answers.Far sum) × NeverWrites command front
IsUnmade command front (Marks fail) =
    HasLineFail command front fail × (fail ≢ mark_fail.Memory) × NeverWrites command front
IsUnmade command front Memory = ⊤
IsUnmade command front _ = ⊥

-- The last line that begins as a head line does is the head line of this command and of no other, and the bytes before
-- it have this mesh.
pub record IsGivenTo (bytes : Bytes) (line : ℕ) (old : FaceSet) (command : Command) : Type 0 where
  pub last : IsLastMark (lines_of bytes) line
  pub read : IsOld (front_of line bytes) old
  pub is : IsMarkLine (head_of bytes line) command
  pub alone : (other : Command) → IsMarkLine (head_of bytes line) other → other ≡ command

-- A command that finds least lengths wrote this text behind that of a mesh, with this new mesh and this deviation.
pub record IsFound (command : Command) (front text : Bytes) (finished : Finished) : Type 0 where
  pub written : WritesFinished (asks_of command) front text
  pub new : finished.new ≡ record {
    soup = written.soup;
    layout = written.shown.finished.layout;
    lengths = (used written.shown.finished.certificates).x;
    shares = written.task.shares;
  }
  pub net : Network
  pub of_layout : IsNetFor written.task.wish written.shown.finished.layout written.task.settings net
  pub deviates : finished.deviation ≡ deviation net (entries (used written.shown.finished.certificates).x)

-- The last line that begins as a head line does stands there, divides the bytes, and begins as that of `fit`.
pub record IsFitAt (bytes : Bytes) (head : HeadAt) : Type 0 where
  pub last : IsLastMark (lines_of bytes) head.line
  pub cuts : CutsAt bytes head
  pub begins : begins_fit (head_of bytes head.line) ≡ true

-- The bytes have the map of this new mesh.
abbrev pub HasMapOf : (bytes : Bytes) (new : Regrid) → Type 0
HasMapOf bytes new = WritesMap bytes (map_text new.soup new.layout new.shares (lengths_in new.lengths))
