-- Why bytes have no map.
use Rattle.std.specs.Prelude.{◌≡◌, ◌≢◌, ℕ, Ok, Err, ⊤}
use Rattle.def_io.specs.Bytes.{Bytes}
use Rattle.def_io.specs.Lines.{lines_of}
use Rattle.def_marks.specs.declared.fail.MarkFail.{MarkFail}
use Rattle.def_marks.specs.declared.fail.MarkFail.TheVariants as mark_fail
use Rattle.def_mesh.specs.Faults.{IsFirstFault}
use Rattle.def_mesh.specs.Manifold.{IsManifold}
use Rattle.def_mesh.specs.declared.Place.{Place}
use Rattle.def_text.specs.FaceSet.{FaceSet}
use Rattle.def_text.specs.Text.{soup_in}
use Rattle.def_text.specs.declared.refusal.ObjFail.{ObjFail}
use Rattle.def_text.specs.declared.refusal.ObjFail.TheVariants as obj_fail
use Rattle.def_run.specs.Crease.{HasMarkFail}
use Rattle.def_run.specs.Fit.{HasAsideFail}
use Rattle.def_run.specs.Map.{HasMap, IsHeadedBy, RefusesToMap}
use Rattle.def_run.specs.MarkLines.{front_of, IsLastMark}
use Rattle.def_run.specs.declared.answer.Answer.TheVariants as answers
use Rattle.def_run.specs.declared.check_fail.CheckFail.{CheckFail}
use Rattle.def_run.specs.declared.check_fail.CheckFail.TheVariants as check_fail
use Rattle.def_run.specs.declared.command.Command.{Command}
use Rattle.def_run.specs.declared.command.Command.TheVariants.{Crease, Fit}

-- The bytes before the last line that begins as a head line does have no soup.
pub record RefusesFrontText (bytes : Bytes) (fail : ObjFail) : Type 0 where
  pub line : ℕ
  pub divided : IsLastMark (lines_of bytes) line
  pub said : soup_in (front_of line bytes) ≡ Err fail

-- They have this soup, whose faces are no manifold, first at this place.
pub record HasFrontFault (bytes : Bytes) (soup : FaceSet) (place : Place) : Type 0 where
  pub line : ℕ
  pub divided : IsLastMark (lines_of bytes) line
  pub said : soup_in (front_of line bytes) ≡ Ok soup
  pub fault : IsFirstFault soup.faces place
  pub refuted : ¬ IsManifold soup.faces

-- Of the lines beside the mesh of a text that a command reads, this is the first refusal.
abbrev pub HasLineFail : (command : Command) (front : Bytes) (fail : MarkFail) → Type 0
HasLineFail (Crease settings) front fail = HasMarkFail front fail
HasLineFail (Fit fit) front fail = HasAsideFail fit front fail
HasLineFail _ front fail = ⊥

-- The line is that of a command which reads lines beside the mesh before it, and one of them is refused.
pub record RefusesFrontMarks (bytes : Bytes) (fail : MarkFail) : Type 0 where
  pub line : ℕ
  pub command : Command
  pub headed : IsHeadedBy bytes line command
  pub said : HasLineFail command (front_of line bytes) fail

-- What each refusal says. All but want of memory say that the bytes have no map.
abbrev pub IsMapFail : (bytes : Bytes) (fail : CheckFail) → Type 0
IsMapFail bytes (check_fail.NotAccepted why) = RefusesToMap bytes (answers.NotAccepted why)
IsMapFail bytes (check_fail.Old fail) =
    RefusesFrontText bytes fail × (fail ≢ obj_fail.Memory) × (¬ HasMap bytes)
IsMapFail bytes (check_fail.NotManifold place soup) = HasFrontFault bytes soup place × (¬ HasMap bytes)
IsMapFail bytes (check_fail.Marks fail) =
    RefusesFrontMarks bytes fail × (fail ≢ mark_fail.Memory) × (¬ HasMap bytes)
IsMapFail bytes (check_fail.Tangled count) = RefusesToMap bytes (answers.Tangled count)
IsMapFail bytes (check_fail.Far sum) = RefusesToMap bytes (answers.Far sum)
IsMapFail bytes check_fail.Memory = ⊤
