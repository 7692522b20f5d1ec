-- What `map` and `check` keep: the map of a new mesh or the line that accepts a pair is written, or a refusal has its
-- cause.
use Rattle.std.proofs.Common.{rules, ◌≡◌, ◌≢◌, inl, inr}
use Rattle.def_io.specs.{Bytes.Bytes, Moves.Change, declared.fails.WriteFail.WriteFail}
use Rattle.def_run.specs.Checking.{HasFitText, IsAcceptedText, RefusesToCheck, WritesAccepted}
use Rattle.def_run.specs.MapFails.{HasLineFail, IsMapFail, RefusesFrontMarks, RefusesFrontText}
use Rattle.def_run.specs.declared.command.Command.TheVariants.{Check, Map}
use Rattle.def_run.specs.{Causes.Cause, Causes.Reads, Causes.Refused, Causes.Refuses, Map.HasMap, Map.RefusesNew}
use Rattle.def_run.specs.{Map.RefusesToMap, Map.WritesMap, Check.RefusesOldText, Check.RefusesPair}
use Rattle.def_run.specs.{CheckFails.IsCheckFail, CheckFails.IsPairFail, MarkLines.front_of, Messages.HasFrontSoup}
use Rattle.def_run.specs.{Messages.LooksAt, declared.answer.Answer.Answer, declared.check_fail.CheckFail.CheckFail}
use Rattle.def_run.specs.{declared.command.Command.Command}
use Rattle.def_text.specs.{FaceSet.FaceSet, Input.ReadWhole, declared.limits.TheConstants.MAX_BYTES}
use Rattle.def_text.specs.{declared.refusal.ObjFail.ObjFail, declared.refusal.Which.TheVariants.Bytes as AllBytes}
use Rattle.qm_check.proofs.Pairs.{headless, old_faulty, old_refused}
use Rattle.qm_top.proofs.{NeverBytes.never_bytes, Refusals.ended, Refusals.place_ended, Refusals.IsWriter}
use Rattle.qm_top.specs.declared.refusal.Refusal.TheVariants.{NotAccepted, Soup, NotManifold, Marks, Layout, Far}
use Rattle.qm_top.specs.{Checking.IsNoPairFor, Checking.IsPlaced, Checking.IsUnaccepted, Mapping.IsNoMapFor}
use Rattle.qm_top.specs.{Refusals.answer_of_marks, Refusals.answer_of_obj, Refusals.Ended}
use Rattle.qm_top.specs.{declared.refusal.Refusal.Refusal}
use Rattle.{def_marks.specs.declared.fail.MarkFail.MarkFail, def_remesh.specs.Checked.IsCheckedPair}
use Rattle.def_marks.specs.declared.fail.MarkFail.TheVariants as marks
use Rattle.def_remesh.specs.declared.kept.LayoutFail.TheVariants as layouts
use Rattle.def_run.specs.declared.answer.Answer.TheVariants as answers
use Rattle.def_run.specs.declared.answer.Why.TheVariants as why
use Rattle.def_run.specs.declared.check_fail.CheckFail.TheVariants as check_fail
use Rattle.def_text.specs.declared.refusal.ObjFail.TheVariants as obj
use Rattle.def_text.specs.declared.refusal.SoupFail.TheVariants as soup
use Rattle.qm_top.specs.declared.refusal.Refusal.TheVariants as refusals

-- A place that bytes are refused for is the first fault of their soup, or of their old text.
pub map_placed : (bytes : Bytes) (fail : CheckFail) → IsMapFail bytes fail → IsPlaced fail
map_placed bytes (check_fail.NotManifold place soup) is = is.0.fault
map_placed bytes _ is = tt

pub check_placed : (bytes : Bytes) (fail : CheckFail) → IsCheckFail bytes fail → IsPlaced fail
check_placed bytes fail h1 = search rules

-- A command refuses a text whose lines beside its mesh are refused.
new_refused : (command : Command) (front : Bytes) (fail : MarkFail) → fail ≢ marks.Memory
    → HasLineFail command front fail → RefusesNew command front (answer_of_marks fail)
new_refused command front h1 h2 = search rules

-- A command that read these bytes refuses them as `map` does, and looks at the mesh in front of the same line.
module _ (command : Command) (input out : Change) (bytes : Bytes) (whole : Reads command input bytes)
    (refuses : (answer : Answer) → RefusesToMap bytes answer → Refuses command bytes answer)
    (looks : (soup : FaceSet) → HasFrontSoup bytes soup → LooksAt command bytes soup)
    (calm : input.faults_now ≡ input.faults) where
  -- It refuses them with this answer.
  refused : (answer : Answer) → RefusesToMap bytes answer → Refused command input answer
  refused answer none = record { bytes = bytes; whole = whole; said = refuses answer none }

  -- The refusal of the text in front has its cause.
  front_cause : (fail : ObjFail) → RefusesFrontText bytes fail → (¬ HasMap bytes)
      → Cause command input out (answer_of_obj fail)
  front_cause (obj.Limit AllBytes line) none never = search (rules, never_bytes)
  front_cause obj.Memory none never = tt
  front_cause _ none never = search (rules, inl)

  -- So has that of the lines beside its mesh.
  marks_cause : (fail : MarkFail) → RefusesFrontMarks bytes fail → fail ≢ marks.Memory → (¬ HasMap bytes)
      → Cause command input out (answer_of_marks fail)
  marks_cause marks.Memory none other never = tt
  marks_cause fail none other never = refused _ (
    inr (record {
      line = none.line;
      command = none.command;
      headed = none.headed;
      said = new_refused none.command (front_of none.line bytes) fail other none.said;
    }),
    never,
  )

  -- Bytes that have no map end the command.
  unmapped_ends : (r : Refusal) → IsNoMapFor bytes r → Ended command input out r
  unmapped_ends (NotAccepted why) none = ended tt (refused _ none) calm
  unmapped_ends (Soup (soup.Obj fail)) none = ended tt (front_cause fail none.0 none.2) calm
  unmapped_ends (NotManifold named) none =
      let fault = none.0.fault in
      let soup = none.0.front in
      let said : RefusesToMap bytes (answers.NotManifold named.place) = (
        inl (record {
          line = fault.line;
          divided = fault.divided;
          none = record { soup = soup; said = fault.said; fault = fault.fault; refuted = fault.refuted };
        }),
        none.1,
      ) in
      place_ended bytes soup whole (refuses _ said) (looks soup (fault.line, fault.divided, fault.said)) none.0.numbers
      calm
  unmapped_ends (Marks fail) none = ended tt (marks_cause fail none.0 none.1 none.2) calm
  unmapped_ends (Layout (layouts.Tangled count)) none = ended tt (refused _ none) calm
  unmapped_ends (Far sum) none = ended tt (refused _ none) calm
  unmapped_ends refusals.Memory none = ended tt tt calm
  unmapped_ends _ none = absurd none

module _ {input : Change} (out : Change) {bytes : Bytes} (whole : ReadWhole MAX_BYTES input.told input.told_now bytes)
    (calm : input.faults_now ≡ input.faults) where
  pub map_writer : IsWriter Map (WritesMap bytes) (IsNoMapFor bytes) input out
  map_writer = record {
    bytes = bytes;
    whole = whole;
    calm = calm;
    writes = λ text said. said;
    read = λ text said. tt;
    ends = unmapped_ends Map input out bytes whole (λ answer none. none) (λ soup has. has) calm;
  }

  -- The refusal of the old text has its cause.
  old_cause : ¬ HasFitText bytes → (fail : ObjFail) → RefusesOldText bytes fail
      → Cause Check input out (answer_of_obj fail)
  old_cause other (obj.Limit AllBytes line) none = search (rules, never_bytes)
  old_cause other obj.Memory none = tt
  old_cause other _ none = record { bytes = bytes; whole = whole; said = inr (other, none) }

  -- A pair that is not accepted ends the command, and so does a text of `fit` that is not.
  unpaired_ends : ¬ HasFitText bytes → (r : Refusal) → IsNoPairFor bytes r → Ended Check input out r
  unpaired_ends other (NotAccepted why) none = search rules
  unpaired_ends other (Soup (soup.Obj fail)) none = ended tt (old_cause other fail none.0) calm
  unpaired_ends other (NotManifold named) none =
      let fault = none.fault in
      place_ended bytes none.old whole (inr (
        other,
        record { line = fault.line; soup = none.old; old = fault.old; fault = fault.fault; refuted = fault.refuted },
      )) (inr (other, (fault.line, fault.old))) none.numbers calm
  unpaired_ends other (Layout (layouts.Tangled count)) none = search (rules, ended, inr)
  unpaired_ends other refusals.Memory none = ended tt tt calm
  unpaired_ends other _ none = absurd none

  unaccepted_ends : (r : Refusal) → IsUnaccepted bytes r → Ended Check input out r
  unaccepted_ends r (inl (fit, none)) = unmapped_ends Check input out bytes whole (λ answer none. inl (fit, none))
      (λ soup has. inl (fit, has)) calm r none
  unaccepted_ends r (inr (other, none)) = unpaired_ends other r none

  pub check_writer : IsWriter Check (WritesAccepted bytes) (IsUnaccepted bytes) input out
  check_writer = record {
    bytes = bytes;
    whole = whole;
    calm = calm;
    writes = λ text said. said;
    read = λ text said. tt;
    ends = unaccepted_ends;
  }

-- What is said of a refusal, in either way, is said of what is not accepted; it is never a fault of the sink.
pub unaccepted : {bytes : Bytes} (fail : CheckFail) (refusal : Refusal) → IsCheckFail bytes fail
    → (IsMapFail bytes fail → IsNoMapFor bytes refusal) → (IsPairFail bytes fail → IsNoPairFor bytes refusal)
    → IsUnaccepted bytes refusal
unaccepted fail refusal (inl (fit, is)) mapped pair = inl (fit, mapped is)
unaccepted fail refusal (inr (other, is)) mapped pair = inr (other, pair is)

pub unwritable : (bytes : Bytes) (fail : WriteFail) → IsUnaccepted bytes (refusals.Write fail) → ⊥
unwritable bytes fail (inl (fit, none)) = none
unwritable bytes fail (inr (other, none)) = none

-- A checked pair is not refused.
pair_not_refused : (bytes : Bytes) (answer : Answer) → IsCheckedPair bytes → RefusesPair bytes answer → ⊥
pair_not_refused bytes (answers.NotAccepted why.NoHead) pair none = headless bytes none pair
pair_not_refused bytes (answers.NotAccepted _) pair none = none.refuted pair
pair_not_refused bytes (answers.Syntax line) pair none = old_refused bytes (obj.Syntax line) none pair
pair_not_refused bytes (answers.NotQuad line corners) pair none = old_refused bytes (obj.NotQuad line corners) none pair
pair_not_refused bytes (answers.Range line) pair none = old_refused bytes (obj.Range line) none pair
pair_not_refused bytes (answers.Limit which line) pair none = old_refused bytes (obj.Limit which line) none pair
pair_not_refused bytes (answers.NotManifold place) pair none = search (rules, old_faulty)
pair_not_refused bytes (answers.Tangled count) pair none = none.refuted pair
pair_not_refused bytes _ pair none = absurd none

-- Nor is anything that is accepted.
pub accepted_not_refused : (bytes : Bytes) (answer : Answer) → IsAcceptedText bytes → RefusesToCheck bytes answer → ⊥
accepted_not_refused bytes answer (inl (fit, has)) (inl (still, none)) = none.1 has
accepted_not_refused bytes answer (inl (fit, has)) (inr (other, none)) = other fit
accepted_not_refused bytes answer (inr (other, pair)) (inl (fit, none)) = other fit
accepted_not_refused bytes answer (inr (other, pair)) (inr (still, none)) = pair_not_refused bytes answer pair none
