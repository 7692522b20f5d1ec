-- Each command that finds least lengths is a fit under a head line of its own.
use Rattle.std.proofs.Common.{rules, [], ◌≡◌, ◌↔◌, ℕ, ℤ, Bool, true, false, List, Option, Some, None, IfSome, codes}
use Rattle.std.proofs.Common.{Result, Ok, Err, inr, refl, sym, ◌∙◌, ap, subst, arith}
use Rattle.{std.specs.Result.result_map_both, std.specs.List.list_all, def_flow.specs.declared.net.Settings.Settings}
use Rattle.{def_cut.specs.Traced.traced_marks, def_feature.specs.Marked.marked_cut, qm_obj.proofs.LawText.is_inside}
use Rattle.{def_layout.specs.Layouts.Layout, def_text.specs.FaceSet.FaceSet, def_remesh.specs.Tasks.Task}
use Rattle.{def_io.specs.Bytes.Bytes, def_marks.specs.Lines.marks_in, def_marks.specs.declared.fail.MarkFail.MarkFail}
use Rattle.{def_metric.specs.Fails.IsFar, def_metric.specs.Targets.edge_settings, qm_certtext.proofs.Texts.head_inside}
use Rattle.def_certtext.specs.Risings.{may_rise, third_if}
use Rattle.def_certtext.specs.{HeadLine.head_line, Reading.IsHead, Settings.AreInRange, declared.certs.Rising.Rising}
use Rattle.def_certtext.specs.{declared.certs.Rising.TheVariants.Never, declared.Asked.Asked}
use Rattle.qm_check.proofs.Heads.{fit_inside, fit_range, named_inside, size_inside}
use Rattle.def_fit.specs.Aims.{AreAimedNear, IsFit}
use Rattle.def_fit.specs.{FitTasks.asides_by, FitTasks.asides_in, FitTasks.Asides, declared.fit.Aim.TheVariants.Edge}
use Rattle.qm_check.specs.{declared.least.Least.Least, Least.terms_of, Least.fixed, Least.least_of, Least.least_task}
use Rattle.qm_check.specs.{Least.remeshed, Least.scaled, Least.AsksToFind, Least.AsksToFindNear, Least.IsLeastLine}
use Rattle.def_patches.specs.{Chosen.IsChosenCut, Chosen.IsPlainCut, declared.Keep.Keep, declared.Patches.Patches}
use Rattle.def_patches.specs.{declared.Keep.TheVariants.Nothing, declared.Keep.TheVariants.Lines}
use Rattle.def_patches.specs.{declared.Patches.TheVariants.Traced, declared.Patches.TheVariants.Merged}
use Rattle.def_run.specs.declared.command.Command.TheVariants.{Remesh, Crease, Size, Coarse, Fit}
use Rattle.def_run.specs.Remesh.{Asks, HasTask, RefusesTask, WritesFinished}
use Rattle.def_run.specs.Map.{asks_of, RefusesNew, WritesNew}
use Rattle.def_run.specs.{Size.AsksForSize, Size.size_head, declared.command.Command.Command, Crease.creased_task}
use Rattle.def_run.specs.{Fit.HasAsideFail, Heads.named_head, MapFails.HasLineFail, MarkLines.IsMarkLine}
use Rattle.def_run.specs.declared.answer.Answer.TheVariants as answers

-- A result is one value, and no refusal besides.
pub one_ok : {T E : Type 0} {r : Result T E} {one other : T} → r ≡ Ok one → r ≡ Ok other → one ≡ other
one_ok is also = cc

pub ok_or_err : {T E : Type 0} {r : Result T E} {one : T} {fail : E} → r ≡ Ok one → r ≡ Err fail → ⊥
ok_or_err is also = cc

-- The wishes of what is asked for add up to this sum, which is too great.
pub record IsFarFrom (least : Least) (line bytes : Bytes) (sum : ℕ) : Type 0 where
  pub task : Task
  pub layout : Layout
  pub asked : HasTask (AsksToFind least line) bytes task layout
  pub unbounded : ¬ AreAimedNear least.fit.aim task.wish layout
  pub far : IsFar task.wish layout task.settings sum

-- What is asked for is the same.
abbrev pub AreSame : (one other : Asks) → Type 0
AreSame one other = (bytes : Bytes) (soup : FaceSet) (task : Task) → one bytes soup task ↔ other bytes soup task

-- A command with this head line asks for what is found, and refuses what is not.
pub record IsPoint (command : Command) (line : Bytes) (least : Least) : Type 0 where
  pub fit : IsFit least.fit
  pub range : AreInRange (terms_of least).settings (may_rise least.rising)
  pub inside : list_all is_inside line ≡ true
  pub asks : AreSame (AsksToFindNear least line) (asks_of command)
  pub tangled : (bytes : Bytes) (count : ℕ) → RefusesTask (AsksToFind least line) bytes (answers.Tangled count)
      → RefusesNew command bytes (answers.Tangled count)
  pub far : (bytes : Bytes) (sum : ℕ) → IsFarFrom least line bytes sum → RefusesNew command bytes (answers.Far sum)
  pub lines : (bytes : Bytes) (fail : MarkFail) → HasAsideFail least.fit bytes fail → HasLineFail command bytes fail
  pub writes : (bytes text : Bytes) → WritesNew command bytes text → WritesFinished (asks_of command) bytes text

-- A task whose network is too tangled is refused however it is asked for.
tangled_by : (one other : Asks) → AreSame one other → (bytes : Bytes) (count : ℕ)
    → RefusesTask one bytes (answers.Tangled count) → RefusesTask other bytes (answers.Tangled count)
tangled_by one other h1 bytes h2 = search rules

-- ---- A fit that asks for no lines.

abbrev nothing : Asides
nothing = record { kept = None; wishes = [] }

module _ (least : Least) (line : Bytes)
    (none : (bytes : Bytes) (soup : FaceSet) → asides_in least.fit bytes soup ≡ Ok nothing) where
  plain : (bytes : Bytes) (soup : FaceSet) (task : Task) → AsksToFind least line bytes soup task
      ↔ ((cut : List Bool) × IsPlainCut soup.faces least.fit.patches cut
      × (task ≡ least_task least line soup nothing cut))
  plain bytes soup task = (
    λ (asides, cut, said, chosen, is).
        let same = one_ok said (none bytes soup) in (cut, rw same at chosen, rw same at is),
    λ (cut, chosen, is). (nothing, cut, none bytes soup, chosen, is),
  )

  -- Over the motorcycle graph it has one task.
  traced : least.fit.patches ≡ Traced → AreSame (AsksToFind least line)
      (λ bytes soup task. task ≡ least_task least line soup nothing (traced_marks soup.faces))
  traced are bytes soup task = (
    λ asked.
        let (cut, chosen, is) = (plain bytes soup task).0 asked in
        is ∙ ap (least_task least line soup nothing) (subst (λ (p : Patches). IsPlainCut soup.faces p cut) are chosen),
    λ is. (plain bytes soup task).1 (traced_marks soup.faces, rw are refl, is),
  )

-- ---- `remesh`, `coarse` and `crease`.

-- A command near the old lengths asks for what it asks for whatever the wishes are.
near_point : (command : Command) (line : Bytes) (keep : Keep) (patches : Patches) (settings : Settings)
    (rising : Rising) → AreInRange settings (may_rise rising) → list_all is_inside line ≡ true
    → AreSame (AsksToFind (record { fit = scaled keep patches settings; rising = rising }) line) (asks_of command)
    → ((bytes : Bytes) (count : ℕ) → RefusesTask (asks_of command) bytes (answers.Tangled count) → RefusesNew command
    bytes (answers.Tangled count)) → ((bytes : Bytes) (fail : MarkFail) → HasAsideFail (scaled keep patches settings)
    bytes fail → HasLineFail command bytes fail) → ((bytes text : Bytes) → WritesNew command bytes text
    → WritesFinished (asks_of command) bytes text) → IsPoint command line
    (record { fit = scaled keep patches settings; rising = rising })
near_point command line keep patches settings rising range inside asks refuses lines writes = search rules

abbrev beside : (marks : List Bool) → Asides
beside marks = record { kept = Some marks; wishes = [] }

-- What `crease` asks for of the lines of a text.
abbrev creased_by : (said : Result (List Bool) MarkFail) → Result Asides MarkFail
creased_by said = asides_by (result_map_both Some (λ fail. fail) said) (Ok [])

crease_gives : (settings : Settings) (soup : FaceSet) (task : Task) (said : Result (List Bool) MarkFail)
    (asides : Asides) (cut : List Bool) → creased_by said ≡ Ok asides → IsChosenCut soup.faces asides.kept Traced cut
    → task ≡ least_task (fixed (scaled Lines Traced settings)) (named_head (codes "crease") settings) soup asides cut
    → (marks : List Bool) × (said ≡ Ok marks) × (task ≡ creased_task settings soup.faces marks)
crease_gives settings soup h1 h2 h3 = search rules

crease_fails : (said : Result (List Bool) MarkFail) (fail : MarkFail) → creased_by said ≡ Err fail → said ≡ Err fail
crease_fails said fail h1 = search rules

-- ---- `size`.

module _ (edge : ℤ) (floor : ℕ) where
  abbrev sized : Least
  sized = fixed (record (scaled Nothing Traced (edge_settings floor)) { aim = Edge edge })

  asks_size : AreSame (AsksToFind sized (size_head edge floor)) (AsksForSize edge floor)
  asks_size = traced sized (size_head edge floor) (λ b s. refl) refl

-- ---- All commands.

point_by : (command : Command) (line : Bytes) → IsMarkLine line command
    → IfSome (least_of command) (IsPoint command line)
point_by (Remesh settings auto) line is = rw is.written (near_point (Remesh settings auto) (head_line settings auto)
    Nothing Traced settings (third_if auto) (subst (AreInRange settings)
    (elim auto as (λ auto. auto ≡ may_rise (third_if auto)) [ true ↦ refl | false ↦ refl ]) is.in_range)
    (head_inside settings auto is.in_range) (traced (remeshed settings auto) (head_line settings auto) (λ b s. refl)
    refl) (λ bytes count why. why) (λ bytes fail has. absurd (ok_or_err refl has.said)) (λ bytes text wrote. wrote))
point_by (Coarse settings) line is = rw is.written (near_point (Coarse settings) (named_head (codes "coarse") settings)
    Nothing Merged settings Never is.in_range (named_inside (codes "coarse") settings refl is.in_range)
    (plain (fixed (scaled Nothing Merged settings)) (named_head (codes "coarse") settings) (λ b s. refl))
    (λ bytes count why. why) (λ bytes fail has. absurd (ok_or_err refl has.said)) (λ bytes text wrote. wrote))
point_by (Crease settings) line is = rw is.written (near_point (Crease settings)
    (named_head (codes "crease") settings) Lines Traced settings Never is.in_range
    (named_inside (codes "crease") settings refl is.in_range) (λ bytes soup task. (
      λ (asides, cut, said, chosen, is).
          crease_gives settings soup task (marks_in bytes soup) asides cut said chosen is,
      λ (marks, read, is). (beside marks, marked_cut soup.faces marks, ap creased_by read, refl, is),
    )) (λ bytes count why. inr why) (λ bytes fail has. record {
      soup = has.soup;
      mesh = has.mesh;
      said
          = crease_fails (marks_in bytes has.soup) fail has.said;
    }) (λ bytes text wrote. wrote))
point_by (Size edge floor) line is =
    let fit : IsFit (sized edge floor).fit = record {
      aim = (is.low, is.near);
      floor = record { low = is.floor_low; high = is.floor_high; at_first = λ e. cc };
    } in
    rw is.written (record {
      fit = fit;
      range = fit_range (sized edge floor).fit fit;
      inside = size_inside edge is.near floor (omega (arith, is.floor_high));
      asks = λ bytes soup task. (
        λ asked.
            let same = (asks_size edge floor bytes soup task).0 asked.0 in
            (same, rw same at asked.1),
        λ asked. ((asks_size edge floor bytes soup task).1 asked.0, rw asked.0 asked.1),
      );
      tangled = tangled_by (AsksToFind (sized edge floor) (size_head edge floor)) (AsksForSize edge floor)
          (asks_size edge floor);
      far = λ bytes sum far.
          let same = (asks_size edge floor bytes far.asked.soup far.task).0 far.asked.asked in
          record {
            soup = far.asked.soup;
            mesh = far.asked.mesh;
            layout = far.layout;
            cut = rw same at far.asked.cut;
            far = rw same at far.far;
          };
      lines = λ bytes fail has. absurd (ok_or_err refl has.said);
      writes = λ bytes text wrote. wrote;
    })
point_by (Fit fit) line is = search (rules, fit_inside)
point_by _ line is = tt

pub point_of : {command : Command} {line : Bytes} {least : Least} → IsLeastLine command line least
    → IsPoint command line least
point_of {command} {line} is =
    subst (λ (o : Option Least). IfSome o (IsPoint command line)) is.finds (point_by command line is.mark)

pub remesh_line : {line : Bytes} {asked : Asked} {least : Least} → IsHead line asked.settings asked.auto
    → least ≡ remeshed asked.settings asked.auto → IsLeastLine (Remesh asked.settings asked.auto) line least
remesh_line is same = record { mark = is; finds = ap (λ (l : Least). Some l) (sym same) }
