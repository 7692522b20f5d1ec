-- What a command keeps that remeshes, and one that wishes for lengths which may be too great: `fit`, and `size`.
use Rattle.std.proofs.Common.{rules, Bool, List, None, Ok, Option, Result, Some, [], codes, false, inr, refl, subst, ℕ}
use Rattle.std.proofs.Common.{ℤ, ◌++◌, ◌<◌, ◌^◌, ◌∷◌, ◌≡◌, ◌≤◌}
use Rattle.std.specs.Prelude.{IfErr, OnOk, unsigned_abs}
use Rattle.def_certtext.specs.{CertLines.certificates_of, CertLines.used, Settings.AreInRange}
use Rattle.def_certtext.specs.{declared.certs.Rising.TheVariants.Never}
use Rattle.def_fit.specs.{Aims.AreAimedNear, Aims.IsFit, Aims.IsFitFail, FitTasks.Asides, FitTasks.asides_in}
use Rattle.def_fit.specs.{FitTasks.fit_task, FitTasks.kept_text, declared.fit.Aim.Aim}
use Rattle.def_fit.specs.{declared.fit.Aim.TheVariants.Edge, declared.fit.Fit.Fit as AnyFit}
use Rattle.def_io.specs.{Moves.Change, Moves.IsStill, Moves.Stream, Bytes.Bytes}
use Rattle.def_layout.specs.{FaceLayouts.IsCutLayout, Layouts.Layout, Lengths.Lengths}
use Rattle.def_marks.specs.{Lines.marks_in, MarkedText.marked_text}
use Rattle.def_metric.specs.{Fails.IsFar, Fails.IsSizeFail, Targets.edge_settings, declared.fail.SizeFail.SizeFail}
use Rattle.def_patches.specs.{Chosen.AreKeptMarks, Chosen.IsChosenLayout, declared.Patches.TheVariants.Traced}
use Rattle.def_remesh.specs.{Tasks.Task, Tasks.Wish, Tasks.old_lengths, Tasks.remesh_task, CutSoups.CutSoup}
use Rattle.def_remesh.specs.{Keeping.IsKept, NewPoints.lengths_in, Placings.IsMeshLayout, ReadAgain.lines_between}
use Rattle.def_remesh.specs.{Refusals.IsLayoutFail, declared.kept.LayoutFail.LayoutFail}
use Rattle.def_run.specs.Remesh.{Asks, AsksToRemesh, IsSettled, IsTracedLayout, RefusesTask, WritesFinished}
use Rattle.def_run.specs.{Causes.Cause, Causes.Refused, Causes.Refuses, Causes.Writes, Reread.HasShortLines}
use Rattle.def_run.specs.{Reread.Rereads, Reread.RereadsTask, Size.AsksForNearSize, Size.AsksForSize, Size.size_task}
use Rattle.def_run.specs.{Size.soup_targets, Coarse.AsksToMerge, Crease.AsksToCrease, Crease.creased_task}
use Rattle.def_run.specs.{Fit.AsksForNearFit, Fit.AsksToFit, Heads.named_head, Heads.named_task, Mesh.IsMeshText}
use Rattle.def_run.specs.{declared.answer.Answer.Answer, declared.command.Command.Command}
use Rattle.def_run.specs.{declared.command.Command.TheVariants.Fit, declared.command.Command.TheVariants.Size}
use Rattle.def_text.specs.{FaceSet.FaceSet, Input.ReadSoup, declared.limits.TheConstants.MAX_BYTES}
use Rattle.qm_top.proofs.Asides.{coarse_aside, crease_aside, fit_aside, marked_aside, size_aside}
use Rattle.qm_top.proofs.Refusals.{TakesMesh, ended, needs, IsWriter, framed_shown, layout_ends}
use Rattle.qm_top.specs.Writing.{FailsAsked, FailsTask, IsOfLayout, IsUnwritten, ShowsAsked, WroteText}
use Rattle.qm_top.specs.{Fitting.FailsNear, Fitting.IsFarTask, Fitting.IsOfWishes, Refusals.Ended}
use Rattle.qm_top.specs.{Refusals.answer_of_layout, Refusals.refusal_of_size, declared.refusal.Refusal.Refusal}
use Rattle.qm_top.specs.{declared.refusal.Refusal.TheVariants.Far}
use Rattle.qm_write.specs.{Framing.framed_text, declared.text.Framed.Framed}
use Rattle.remesh_laws.proofs.Asides.{head_aside, none_aside}
use Rattle.{def_cut.specs.FullCut.IsFullCut, def_cut.specs.Traced.traced_marks, def_feature.specs.Marked.marked_cut}
use Rattle.{def_flow.specs.declared.net.Settings.Settings, def_mesh.specs.Manifold.IsManifold}
use Rattle.{embedding_laws.proofs.OneLayout.one_layout_law, patch_laws.proofs.Chosen.chosen_cut_law}
use Rattle.{remesh_laws.specs.Asides.IsAside, remesh_laws.specs.Keeps.ShowsTask, site_laws.proofs.Laws.graph_law}
use Rattle.def_remesh.specs.declared.kept.LayoutFail.TheVariants as layouts
use Rattle.def_run.specs.declared.command.Command.TheVariants as commands
use Rattle.def_metric.specs.declared.fail.SizeFail.TheVariants as sizes
use Rattle.def_run.specs.declared.answer.Answer.TheVariants as answers

-- Where a reader passes over the lines around the new mesh, it is read again.
abbrev pub IsReadAside : (asks : Asks) (bytes text : Bytes) (said : WritesFinished asks bytes text) → Type 0
IsReadAside asks bytes text said = IsAside (said.task.head ++ 10 ∷ [])
    → IsAside (lines_between said.task said.soup text said.shown.finished)
    → RereadsTask asks bytes text said

-- It does where the lines of the task that was asked are such.
pub task_reread : {asks : Asks} {bytes text : Bytes} (said : WritesFinished asks bytes text) (task : Task)
    → said.task ≡ task → IsAside (task.head ++ 10 ∷ [])
    → IsAside (task.between said.shown.finished.layout (lengths_in (used said.shown.finished.certificates).x))
    → IsReadAside asks bytes text said → RereadsTask asks bytes text said
task_reread said task is head between read = search rules

-- What a command does that asks for a task: it writes it finished, so that it is read again, or refuses it.
pub record IsTasked (command : Command) (asks : Asks) : Type 0 where
  pub writes : (bytes text : Bytes) → WritesFinished asks bytes text → Writes command bytes text
  pub read : (bytes text : Bytes) (said : WritesFinished asks bytes text) → IsReadAside asks bytes text said
      → Rereads command bytes text (writes bytes text said)
  pub refuses : (bytes : Bytes) (answer : Answer) → RefusesTask asks bytes answer → Refuses command bytes answer

-- A shown task is written.
abbrev pub finished_of : {asks : Asks} {bytes text : Bytes} {soup : FaceSet} → IsMeshText bytes soup
    → ShowsAsked asks bytes soup text → WritesFinished asks bytes text
finished_of {soup = soup} mesh shows =
    record { soup = soup; mesh = mesh; task = shows.0; asked = shows.1; shown = shows.2.shown }

-- What such a command keeps that has read a mesh.
pub task_writer : {command : Command} {asks : Asks} {input out : Change} {soup : FaceSet} → TakesMesh command
    → IsTasked command asks → IsManifold soup.faces → (read : ReadSoup MAX_BYTES input.told input.told_now soup)
    → input.faults_now ≡ input.faults
    → IsWriter command (ShowsAsked asks read.bytes soup) (IsOfLayout (FailsAsked asks read.bytes soup)) input out
task_writer {command} {asks} {input} {out} {soup} takes tasked manifold read calm = record {
  bytes = read.bytes;
  whole = (needs command takes).reads input read.bytes read.whole;
  calm = calm;
  writes = λ text shows. tasked.writes read.bytes text (finished_of mesh shows);
  read = λ text shows. tasked.read read.bytes text (finished_of mesh shows) shows.2.read;
  ends = layout_ends calm refuses;
}
  where
    mesh : IsMeshText read.bytes soup
    mesh = record { said = read.said; manifold = manifold }

    refuses : (fail : LayoutFail) → FailsAsked asks read.bytes soup fail
        → Cause command input out (answer_of_layout fail)
    refuses layouts.Memory why = tt
    refuses fail why = search rules

-- ---- The commands that do so.

-- A remesh has no rounds, and its settings may be asked for as floors rise in it.
pub remesh_tasked : {settings : Settings} {auto : Bool} → AreInRange settings auto
    → IsTasked (commands.Remesh settings auto) (AsksToRemesh settings auto)
remesh_tasked {settings} {auto} range = record {
  writes = λ bytes text said. said;
  read = λ bytes text said read. task_reread {asks = AsksToRemesh settings auto} said
      (remesh_task settings auto said.soup.faces) said.asked (head_aside settings auto range) none_aside read;
  refuses = λ bytes answer why. why;
}

pub crease_tasked : {settings : Settings} → AreInRange settings false
    → IsTasked (commands.Crease settings) (AsksToCrease settings)
crease_tasked {settings} range = record {
  writes = λ bytes text said. said;
  read = λ bytes text said read short. task_reread {asks = AsksToCrease settings} said
      (creased_task settings said.soup.faces said.asked.0) said.asked.2 (crease_aside settings range)
      (marked_aside said.asked.0 said.shown.finished.layout (lengths_in (used said.shown.finished.certificates).x)
      (subst (λ (t : Task). HasShortLines (t.between said.shown.finished.layout
      (lengths_in (used said.shown.finished.certificates).x))) said.asked.2 short)) read;
  refuses = λ bytes answer why. inr why;
}

pub coarse_tasked : {settings : Settings} → AreInRange settings false
    → IsTasked (commands.Coarse settings) (AsksToMerge settings)
coarse_tasked {settings} range = record {
  writes = λ bytes text said. said;
  read = λ bytes text said read. task_reread {asks = AsksToMerge settings} said (named_task (codes "coarse") settings
      said.asked.0) said.asked.2 (coarse_aside settings range) none_aside read;
  refuses = λ bytes answer why. why;
}

-- What is done and what is refused for a task is so for whoever asks for it.
pub asked_ends : {O : Type 0} (asks : Asks) {soup read : FaceSet} → soup ≡ read → (task : Task)
    → ((bytes : Bytes) → asks bytes soup task) → (result : Result (Unit {0}) Refusal) (out : Stream O)
    → OnOk result (WroteText (ShowsTask task soup) out.change)
    → IfErr result (IsUnwritten (ShowsTask task soup) (IsOfLayout (FailsTask task soup)) out)
    → record {
      done : (bytes : Bytes) → OnOk result (WroteText (ShowsAsked asks bytes read) out.change);
      refused : (bytes : Bytes)
          → IfErr result (IsUnwritten (ShowsAsked asks bytes read) (IsOfLayout (FailsAsked asks bytes read)) out);
    }
asked_ends asks {soup} same task asked result out done refused = search rules

-- ---- The task of a mesh with marks.

module _ (bytes : Bytes) (cut : CutSoup) {read : FaceSet} {marks given : List Bool} (copied : marks ≡ given)
    (said : marks_in bytes read ≡ Ok given) (same : cut.soup ≡ read)
    (chosen : IsChosenLayout cut.soup.faces (Some marks) Traced cut.layout) where
  asked_so : (settings : Settings) → AsksToCrease settings bytes cut.soup (creased_task settings cut.soup.faces marks)
  asked_so settings = search rules

  marked_on : IsCutLayout cut.soup.faces (marked_cut cut.soup.faces marks) cut.layout
  marked_on = subst (λ (edges : List Bool). IsCutLayout cut.soup.faces edges cut.layout) chosen.1 chosen.2

  -- What is kept of it is written for its task.
  pub creased_shown : (settings : Settings) (framed : Framed) → IsMeshLayout cut.soup.faces cut.layout
      → framed.remesh.terms ≡ record { settings = settings; rising = Never } → IsKept old_lengths cut.layout settings
      Never (certificates_of framed.remesh.certs) framed.remesh.numbering → framed.head.items ≡ named_head
      (codes "crease") settings ++ 10 ∷ [] → framed.between.items ≡ marked_text marks cut.layout
      (lengths_in (used (certificates_of framed.remesh.certs)).x) → framed.shares ≡ None
      → ShowsAsked (AsksToCrease settings) bytes read (framed_text framed cut.soup cut.layout)
  creased_shown settings framed laid is kept head between even = rw (← same) (
    creased_task settings cut.soup.faces marks,
    asked_so settings,
    framed_shown (creased_task settings cut.soup.faces marks) framed cut.soup cut.layout laid marked_on is kept head
        between even,
  )

  -- Where its layout is refused its task fails.
  pub creased_fails : (settings : Settings) (fail : LayoutFail)
      → IsLayoutFail old_lengths cut.layout settings Never fail → FailsAsked (AsksToCrease settings) bytes read fail
  creased_fails settings fail why = subst (λ (s : FaceSet). FailsAsked (AsksToCrease settings) bytes s fail) same
      (creased_task settings cut.soup.faces marks, asked_so settings, (cut.layout, marked_on, why))

-- What a command does that asks for a task where its wishes are not too great: it writes it finished, so that it is
-- read again, or refuses it; a network that is too tangled comes before wishes that are too great.
pub record IsAimed (command : Command) (aim : Aim) (asks near : Asks) : Type 0 where
  pub writes : (bytes text : Bytes) → WritesFinished near bytes text → Writes command bytes text
  pub read : (bytes text : Bytes) (said : WritesFinished near bytes text) → IsReadAside near bytes text said
      → Rereads command bytes text (writes bytes text said)
  pub tangled : (bytes : Bytes) (count : ℕ) → RefusesTask asks bytes (answers.Tangled count)
      → Refuses command bytes (answers.Tangled count)
  pub far : (bytes : Bytes) (soup : FaceSet) (sum : ℕ) → IsMeshText bytes soup → IsFarTask aim asks bytes soup sum
      → Refuses command bytes (answers.Far sum)
  pub refuses : (bytes : Bytes) (answer : Answer) → IsSettled answer → RefusesTask near bytes answer
      → Refuses command bytes answer

-- What such a command keeps that has read a mesh.
pub aimed_writer : {command : Command} {aim : Aim} {asks near : Asks} {input out : Change} {soup : FaceSet}
    → TakesMesh command → IsAimed command aim asks near → IsManifold soup.faces
    → (read : ReadSoup MAX_BYTES input.told input.told_now soup) → input.faults_now ≡ input.faults
    → IsWriter command (ShowsAsked near read.bytes soup)
    (IsOfWishes (FailsNear asks near read.bytes soup) (IsFarTask aim asks read.bytes soup)) input out
aimed_writer {command} {aim} {asks} {near} {input} {out} {soup} takes aimed manifold read calm = record {
  bytes = read.bytes;
  whole = (needs command takes).reads input read.bytes read.whole;
  calm = calm;
  writes = λ text shows. aimed.writes read.bytes text (finished_of mesh shows);
  read = λ text shows. aimed.read read.bytes text (finished_of mesh shows) shows.2.read;
  ends = ends;
}
  where
    mesh : IsMeshText read.bytes soup
    mesh = record { said = read.said; manifold = manifold }

    refused : (answer : Answer) → Refuses command read.bytes answer → Refused command input answer
    refused answer said = search rules

    refuses : (fail : LayoutFail) → FailsNear asks near read.bytes soup fail
        → Cause command input out (answer_of_layout fail)
    refuses layouts.Memory why = tt
    refuses (layouts.Tangled count) why = search rules
    refuses fail why = search rules

    ends : (r : Refusal) → IsOfWishes (FailsNear asks near read.bytes soup) (IsFarTask aim asks read.bytes soup) r
        → Ended command input out r
    ends (Far sum) far = ended tt (refused (answers.Far sum) (aimed.far read.bytes soup sum mesh far)) calm
    ends r why = layout_ends {fails = FailsNear asks near read.bytes soup} calm refuses r why

-- A task that is asked for of a cut mesh, and asked for as it is where its wishes are not too great.
pub record IsAimedAt (aim : Aim) (asks near : Asks) (bytes : Bytes) (cut : CutSoup) (task : Task) : Type 0 where
  pub asked : asks bytes cut.soup task
  pub on : IsCutLayout cut.soup.faces task.marks cut.layout
  pub nearly : AreAimedNear aim task.wish cut.layout → near bytes cut.soup task

module _ {aim : Aim} {asks near : Asks} {bytes : Bytes} {cut : CutSoup} {task : Task} {read : FaceSet}
    (is : IsAimedAt aim asks near bytes cut task) (same : cut.soup ≡ read) where
  -- What is kept of a layout is written for it.
  pub aimed_shown : (framed : Framed) → IsMeshLayout cut.soup.faces cut.layout → AreAimedNear aim task.wish cut.layout
      → framed.remesh.terms ≡ record { settings = task.settings; rising = task.rising } → IsKept task.wish cut.layout
      task.settings task.rising (certificates_of framed.remesh.certs) framed.remesh.numbering
      → framed.head.items ≡ task.head ++ 10 ∷ [] → framed.between.items ≡ task.between cut.layout
      (lengths_in (used (certificates_of framed.remesh.certs)).x) → framed.shares ≡ task.shares
      → ShowsAsked near bytes read (framed_text framed cut.soup cut.layout)
  aimed_shown framed laid close terms kept head between shares = rw (← same) (
    task,
    is.nearly close,
    framed_shown task framed cut.soup cut.layout laid is.on terms kept head between shares,
  )

  fails_for : {O : Type 0} (says : Bytes → Type 0) (out : Stream O) → IsStill out → (fail : SizeFail)
      → IsFitFail aim task.wish cut.layout task.settings task.rising fail
      → IsUnwritten says (IsOfWishes (FailsNear asks near bytes cut.soup) (IsFarTask aim asks bytes cut.soup)) out
      (refusal_of_size fail)
  fails_for says out still (sizes.Far sum) why = search rules
  fails_for says out still (sizes.Layout (layouts.Tangled count)) why = search rules
  fails_for says out still (sizes.Layout layouts.Memory) why = (still, tt)
  fails_for says out still (sizes.Layout _) (close, why) = (still, (task, is.nearly close, (cut.layout, is.on, why)))

  -- It is not written where a layout has no least lengths for its wishes, or none that give a new mesh.
  pub aimed_fails : {O : Type 0} (says : Bytes → Type 0) (out : Stream O) → IsStill out → (fail : SizeFail)
      → IsFitFail aim task.wish cut.layout task.settings task.rising fail
      → IsUnwritten says (IsOfWishes (FailsNear asks near bytes read) (IsFarTask aim asks bytes read)) out
      (refusal_of_size fail)
  aimed_fails says out still fail why =
      subst (λ (s : FaceSet). IsUnwritten says (IsOfWishes (FailsNear asks near bytes s) (IsFarTask aim asks bytes s))
      out (refusal_of_size fail)) same (fails_for says out still fail why)

-- The cut of a cut mesh is that of a manifold; wishes that are not too great for its layout are so for each layout of
-- it, as there is one.
manifold_of : (cut : CutSoup) → IsMeshLayout cut.soup.faces cut.layout → IsManifold cut.soup.faces
manifold_of cut laid = subst IsManifold laid.1 laid.0.mesh.manifold

near_on : (aim : Aim) (wish : Wish) (cut : CutSoup) (edges : List Bool) → IsMeshLayout cut.soup.faces cut.layout
    → IsFullCut cut.soup.faces edges → IsCutLayout cut.soup.faces edges cut.layout → AreAimedNear aim wish cut.layout
    → (other : Layout) → IsCutLayout cut.soup.faces edges other → AreAimedNear aim wish other
near_on aim wish cut edges laid full on near other also = subst (AreAimedNear aim wish)
    (one_layout_law cut.soup.faces edges (manifold_of cut laid) full cut.layout other on also) near

-- ---- `fit`.

pub fit_aimed : {fit : AnyFit} → IsFit fit → IsAimed (Fit fit) fit.aim (AsksToFit fit) (AsksForNearFit fit)
fit_aimed {fit} is = record {
  writes = λ bytes text said. said;
  read = λ bytes text said read short.
      let asked = said.asked.0 in
      let new = lengths_in (used said.shown.finished.certificates).x in
      task_reread {asks = AsksForNearFit fit} said (fit_task fit said.soup asked.0 asked.1) asked.4 (fit_aside fit is)
      (kept_aside asked.0.kept said.shown.finished.layout new
      (subst (λ (t : Task). HasShortLines (t.between said.shown.finished.layout new)) asked.4 short)) read;
  tangled = λ bytes count why. why;
  far = λ bytes soup sum mesh far. record {
    task = far.task;
    layout = far.layout;
    asked = record { soup = soup; mesh = mesh; asked = far.asked; cut = far.cut };
    unbounded = far.unbounded;
    far = far.far;
  };
  refuses = refuses;
}
  where
    -- The lines behind the new mesh are passed over.
    kept_aside : (kept : Option (List Bool)) (layout : Layout) (new : Lengths)
        → HasShortLines (kept_text kept layout new) → IsAside (kept_text kept layout new)
    kept_aside None layout new short = none_aside
    kept_aside (Some marks) layout new short = marked_aside marks layout new short

    refuses : (bytes : Bytes) (answer : Answer) → IsSettled answer → RefusesTask (AsksForNearFit fit) bytes answer
        → Refuses (Fit fit) bytes answer
    refuses bytes (answers.Far sum) settled why = absurd settled
    refuses bytes (answers.Tangled count) settled why = absurd settled
    refuses bytes _ settled why = inr why

-- The task that it asks for over a chosen cut, where this was read beside the mesh.
module _ (fit : AnyFit) (bytes : Bytes) (cut : CutSoup) (asides : Asides) {read : FaceSet} {given : Asides}
    (kept : asides.kept ≡ given.kept) (wishes : asides.wishes ≡ given.wishes)
    (said : asides_in fit bytes read ≡ Ok given) (each : AreKeptMarks read.faces given.kept) (same : cut.soup ≡ read)
    (laid : IsMeshLayout cut.soup.faces cut.layout)
    (chosen : IsChosenLayout cut.soup.faces asides.kept fit.patches cut.layout) where
  full : IsFullCut cut.soup.faces chosen.0
  full = chosen_cut_law cut.soup.faces asides.kept fit.patches chosen.0 (manifold_of cut laid)
      (rw (same, kept) each) chosen.1

  pub fit_at : IsFullCut cut.soup.faces chosen.0 × IsAimedAt fit.aim (AsksToFit fit) (AsksForNearFit fit) bytes cut
      (fit_task fit cut.soup asides chosen.0)
  fit_at = search (rules, full, near_on)

-- ---- `size`.

-- Why a layout is not remeshed with edges of a given length, as the failure of an aim.
pub size_fail_as : (edge : ℤ) (wish : Wish) (layout : Layout) (floor : ℕ) (fail : SizeFail)
    → IsSizeFail wish layout floor fail → IsFitFail (Edge edge) wish layout (edge_settings floor) Never fail
size_fail_as edge wish h1 = search rules

pub size_aimed : {edge : ℤ} {floor : ℕ} → unsigned_abs edge ≤ 999_999_999_999_999 → floor < 2 ^ 64
    → IsAimed (Size edge floor) (Edge edge) (AsksForSize edge floor) (AsksForNearSize edge floor)
size_aimed {edge} {floor} near few = record {
  writes = λ bytes text said. said;
  read = λ bytes text said read. task_reread {asks = AsksForNearSize edge floor} said
      (size_task edge floor said.soup) said.asked.0 (size_aside edge near floor few) none_aside read;
  tangled = λ bytes count why. why;
  far = λ bytes soup sum mesh far. record {
    soup = soup;
    mesh = mesh;
    layout = far.layout;
    cut = subst (λ (t : Task). IsCutLayout soup.faces t.marks far.layout) far.asked far.cut;
    far = subst (λ (t : Task). IsFar t.wish far.layout t.settings sum) far.asked far.far;
  };
  refuses = refuses;
}
  where
    refuses : (bytes : Bytes) (answer : Answer) → IsSettled answer
        → RefusesTask (AsksForNearSize edge floor) bytes answer → Refuses (Size edge floor) bytes answer
    refuses bytes (answers.Far sum) settled why = absurd settled
    refuses bytes (answers.Tangled count) settled why = absurd settled
    refuses bytes _ settled why = why

-- Its task is asked for: the motorcycle graph has one layout.
pub size_at : (edge : ℤ) (floor : ℕ) (bytes : Bytes) (cut : CutSoup) → IsMeshLayout cut.soup.faces cut.layout
    → IsTracedLayout cut.soup.faces cut.layout → IsAimedAt (Edge edge) (AsksForSize edge floor)
    (AsksForNearSize edge floor) bytes cut (size_task edge floor cut.soup)
size_at edge floor bytes cut laid traced = record {
  asked = refl;
  on = traced;
  nearly = λ near. (
    refl,
    near_on (Edge edge) (soup_targets edge cut.soup) cut (traced_marks cut.soup.faces) laid
        (graph_law cut.soup.faces (manifold_of cut laid)).1 traced near,
  );
}
