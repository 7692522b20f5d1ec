-- What a run keeps: bytes that a command takes are not refused, and one that solves finds least lengths.
use Rattle.std.proofs.Common.{rules, Err, List, Ok, Result, Some, [], ap, inl, inr, length, length-append, refl, subst}
use Rattle.std.proofs.Common.{sym, ℕ, ℤ, ◌∙◌, ◌≡◌, ◌≢◌, ◌≤◌, ◌⊎◌}
use Rattle.def_certtext.specs.{declared.certs.Rising.Rising, declared.certs.Rising.TheVariants.Never}
use Rattle.def_fit.specs.{FitTasks.asides_in, declared.fit.Fit.Fit as AnyFit}
use Rattle.{def_flow.specs.declared.net.Settings.Settings, def_marks.specs.declared.fail.MarkFail.MarkFail}
use Rattle.def_io.specs.{Moves.Change, Moves.GaveMore, Moves.IsEmptied, Moves.IsStill, Moves.Stream, Moves.gave}
use Rattle.def_io.specs.{Bytes.Bytes, Bytes.Told, Faults.Rose}
use Rattle.def_remesh.specs.{Tasks.Task, Tasks.Wish, Tasks.old_lengths, Refusals.IsRemeshable, Refusals.IsTangledAt}
use Rattle.def_run.specs.Causes.{Cause, FailsToRead, IsGood, Reads, ReadsTooMany, Refuses, SourceHolds, Takes}
use Rattle.def_run.specs.Fit.{AsksForNearFit, AsksToFit, HasAsideFail, HasNearAsides, RefusesFit}
use Rattle.def_run.specs.{Remesh.Asks, Remesh.HasFinished, Remesh.HasTask, Remesh.HoldsUntangled, Remesh.IsSettled}
use Rattle.def_run.specs.{Remesh.IsTracedLayout, Remesh.RefusesLayout, Remesh.RefusesTask, Bench.RefusesToBench}
use Rattle.def_run.specs.{Bench.bench_faces, Bench.bench_settings, Crease.HasMarks, Crease.RefusesMarks, LayOut.HasKept}
use Rattle.def_run.specs.{LayOut.RefusesToLayOut, Size.AsksForSize, Size.HasNearTargets, Size.RefusesSize}
use Rattle.def_run.specs.{CommandLines.IsCommand, ErrorLines.error_line, Exits.RunsTo, Exits.WasShort, Mesh.IsMeshText}
use Rattle.def_run.specs.{Mesh.IsNoMesh, Messages.Said, Solving.IsUntangled, declared.answer.Answer.Answer}
use Rattle.def_run.specs.{declared.command.Command.Command, declared.words.WordsFail.WordsFail}
use Rattle.def_run.specs.declared.answer.Answer.TheVariants.{Done, Doubled, Far, Limit, Memory, NotEdge, NotManifold}
use Rattle.def_run.specs.declared.answer.Answer.TheVariants.{NotQuad, Range, ReadFault, Syntax, Tangled, TooFine, Usage}
use Rattle.def_run.specs.declared.answer.Answer.TheVariants.{WriteFault}
use Rattle.def_run.specs.declared.command.Command.TheVariants.{Bench, Blocks, Check, Coarse, Crease, Fit, Graph, Grids}
use Rattle.def_run.specs.declared.command.Command.TheVariants.{LayOut, Map, Refine, Remesh, Size, Tidy}
use Rattle.def_text.specs.{FaceSet.FaceSet, Types.Words, declared.limits.TheConstants.MAX_BYTES}
use Rattle.def_text.specs.{declared.refusal.ObjFail.ObjFail, declared.refusal.Which.TheVariants.Bytes as AllBytes}
use Rattle.qm_top.proofs.{Mapped.accepted_not_refused, Refusals.says_why, Refusals.says_words}
use Rattle.qm_top.specs.Refusals.{Ended, Finished, answer_of, answer_of_words, names_of}
use Rattle.qm_top.specs.declared.refusal.Refusal.{Refusal}
use Rattle.remesh_laws.proofs.Keeps.{fits_not_doubled, fits_not_fine}
use Rattle.{def_layout.specs.Layouts.Layout, def_mesh.specs.Manifold.IsManifold, def_patches.specs.declared.Keep.Keep}
use Rattle.def_marks.specs.declared.fail.MarkFail.TheVariants as marks
use Rattle.def_run.specs.declared.answer.Answer.TheVariants as answers
use Rattle.def_run.specs.declared.words.WordsFail.TheVariants as words_fail

-- ---- What is refused of a mesh.

-- Bytes have one soup.
one_soup : {bytes : Bytes} {a b : FaceSet} → IsMeshText bytes a → IsMeshText bytes b → a ≡ b
one_soup {a = a} {b = b} one two =
    let both : ◌≡◌ {A = Result FaceSet ObjFail} (Ok a) (Ok b) = sym one.said ∙ two.said in cc

-- Bytes that have a mesh have no refusal of one.
mesh_not_refused : {bytes : Bytes} {soup : FaceSet} (answer : Answer) → IsMeshText bytes soup → IsNoMesh bytes answer
    → ⊥
mesh_not_refused (Syntax line) mesh none = cc (mesh.said, none)
mesh_not_refused (NotQuad line corners) mesh none = cc (mesh.said, none)
mesh_not_refused (Range line) mesh none = cc (mesh.said, none)
mesh_not_refused (Limit which line) mesh none = cc (mesh.said, none)
mesh_not_refused {soup = soup} (NotManifold place) mesh none =
    let both : ◌≡◌ {A = Result FaceSet ObjFail} (Ok soup) (Ok none.soup) = sym mesh.said ∙ none.said in
    let same : soup ≡ none.soup = cc in
    none.refuted (subst (λ (s : FaceSet). IsManifold s.faces) same mesh.manifold)
mesh_not_refused _ mesh none = absurd none

-- A line beside a mesh is refused for a fail of this kind.
abbrev ByLine : (fails : MarkFail → Type 0) (answer : Answer) → Type 0
ByLine fails (Syntax line) = fails (marks.Syntax line)
ByLine fails (Range line) = fails (marks.Range line)
ByLine fails (NotEdge line) = fails (marks.NotEdge line)
ByLine fails _ = ⊥

by_line : (fails : MarkFail → Type 0) (answer : Answer) → ((fail : MarkFail) → fails fail → ⊥) → ByLine fails answer → ⊥
by_line fails answer h1 h2 = search rules

-- Lines that are read are not refused.
read_lines : {A : Type 0} {bytes : Bytes} {a b : FaceSet} {read : A} {fail : MarkFail}
    (lines : FaceSet → Result A MarkFail) → IsMeshText bytes a → IsMeshText bytes b → lines a ≡ Ok read
    → lines b ≡ Err fail → ⊥
read_lines lines one two said none = cc (ap lines (one_soup one two), said, none)

marks_not_refused : {bytes : Bytes} (answer : Answer) → HasMarks bytes → RefusesMarks bytes answer → ⊥
marks_not_refused {bytes} answer has = search rules

lay_out_not_refused : {keep : Keep} {bytes : Bytes} (answer : Answer) → HasKept keep bytes
    → RefusesToLayOut keep bytes answer → ⊥
lay_out_not_refused h1 h2 h3 = search rules

-- ---- What a refusal of a task says of the answer, where its layouts say so.

task_says : {asks : Asks} {bytes : Bytes} {soup : FaceSet} (Says : Answer → Type 0) (answer : Answer)
    → IsMeshText bytes soup → ((task : Task) (layout : Layout) → HasTask asks bytes task layout → RefusesLayout
    task.wish layout task.settings task.rising answer → Says answer) → RefusesTask asks bytes answer → Says answer
task_says Says answer mesh each (inl none) = absurd (mesh_not_refused answer mesh none)
task_says Says answer mesh each (inr (task, layout, has, why)) = each task layout has why

-- A layout that is remeshed whatever least lists are kept is not refused.
layout_not_refused : (wish : Wish) (settings : Settings) (rising : Rising) (layout : Layout) (answer : Answer)
    → IsRemeshable wish layout settings rising → RefusesLayout wish layout settings rising answer → ⊥
layout_not_refused wish settings rising layout (Tangled count) fits why = fits.untangled count why
layout_not_refused wish settings rising layout (TooFine faces kept) fits why = search (rules, fits_not_fine)
layout_not_refused wish settings rising layout (Doubled u v cert) fits why = search (rules, fits_not_doubled)
layout_not_refused wish settings rising layout _ fits why = absurd why

-- One that is not too tangled is refused for its least lengths alone.
layout_settles : (wish : Wish) (settings : Settings) (rising : Rising) (layout : Layout) (answer : Answer)
    → ((count : ℕ) → ¬ IsTangledAt wish layout settings count)
    → RefusesLayout wish layout settings rising answer → IsSettled answer
layout_settles wish settings h1 h2 = search rules

task_not_refused : {asks : Asks} {bytes : Bytes} (answer : Answer) → HasFinished asks bytes
    → RefusesTask asks bytes answer → ⊥
task_not_refused {asks} answer takes = task_says {asks = asks} (λ a. ⊥) answer takes.mesh (λ task layout has.
    layout_not_refused task.wish task.settings task.rising layout answer (takes.fits task layout has))

task_settles : {asks : Asks} {left : Told} (held : HoldsUntangled asks left) (answer : Answer)
    → RefusesTask asks held.bytes answer → IsSettled answer
task_settles {asks} held answer = search rules

-- What is refused of what is asked for under a condition is refused of all that is asked for.
near_refused : {bytes : Bytes} (asks near : Asks) (answer : Answer)
    → ((soup : FaceSet) (task : Task) → near bytes soup task → asks bytes soup task) → RefusesTask near bytes answer
    → RefusesTask asks bytes answer
near_refused asks near h1 h2 = search rules

-- Targets that are not too great are refused for what is asked of them alone.
size_says : (Says : Answer → Type 0) (edge : ℤ) (floor : ℕ) {bytes : Bytes} {soup : FaceSet} (answer : Answer)
    → IsMeshText bytes soup → HasNearTargets edge soup
    → (RefusesTask (AsksForSize edge floor) bytes answer → Says answer) → RefusesSize edge floor bytes answer
    → Says answer
size_says Says edge floor (Far sum) mesh near says is = search rules
size_says Says edge floor (Tangled count) mesh near says why = says why
size_says Says edge floor answer mesh near says why = search rules

-- So are wishes that are not too great, with lines beside the mesh that are not refused.
fit_says : (Says : Answer → Type 0) {fit : AnyFit} {bytes : Bytes} (answer : Answer) → HasNearAsides fit bytes
    → (RefusesTask (AsksToFit fit) bytes answer → Says answer) → RefusesFit fit bytes answer → Says answer
fit_says Says {fit} {bytes} (Far sum) has says is = search rules
fit_says Says (Tangled count) has says why = says why
fit_says Says {fit} {bytes} answer has says why = elim why [
  | inl lines ↦ absurd (by_line (HasAsideFail fit bytes) answer
      (λ fail none. read_lines (asides_in fit bytes) has.mesh none.mesh has.said none.said) lines)
  | inr task ↦ says (near_refused (AsksToFit fit) (AsksForNearFit fit) answer (λ soup task near. near.0) task)
]

-- A mesh of a size that is a manifold is refused for its layouts alone.
bench_says : (Says : Answer → Type 0) (size : ℕ) (answer : Answer) → IsManifold (bench_faces size)
    → ((layout : Layout) → IsTracedLayout (bench_faces size) layout → RefusesLayout old_lengths layout bench_settings
    Never answer → Says answer) → RefusesToBench size answer → Says answer
bench_says Says size (NotManifold place) manifold each why = absurd (why.1 manifold)
bench_says Says size _ manifold each (layout, cut, why) = each layout cut why

-- ---- How a command ends.

-- No command both takes bytes and refuses them.
not_both : (command : Command) (bytes : Bytes) (answer : Answer) → Takes command bytes → Refuses command bytes answer
    → ⊥
not_both Tidy bytes answer takes why = mesh_not_refused answer takes.mesh why
not_both Graph bytes answer takes why = mesh_not_refused answer takes.mesh why
not_both (Refine by) bytes (TooFine faces kept) takes (layout, cut, fine) = search rules
not_both (Refine by) bytes answer takes why = mesh_not_refused answer takes.mesh why
not_both (Remesh settings auto) bytes answer takes why = task_not_refused answer takes why
not_both Check bytes answer takes why = accepted_not_refused bytes answer takes why
not_both (Bench size) bytes answer takes why = bench_says (λ a. ⊥) size answer takes.manifold
    (λ layout cut. layout_not_refused old_lengths bench_settings Never layout answer (takes.fits layout cut)) why
not_both (Crease settings) bytes answer takes (inl none) = marks_not_refused answer takes.marks none
not_both (Crease settings) bytes answer takes (inr why) = task_not_refused answer takes.finished why
not_both (Size edge floor) bytes answer takes why =
    size_says (λ a. ⊥) edge floor answer takes.finished.mesh takes.near (task_not_refused answer takes.finished) why
not_both (Coarse settings) bytes answer takes why = task_not_refused answer takes why
not_both (Blocks by) bytes (TooFine faces kept) takes (layout, cut, fine) = search rules
not_both (Blocks by) bytes answer takes why = mesh_not_refused answer takes.mesh why
not_both Map bytes answer takes why = why.1 takes
not_both (Fit fit) bytes answer takes why =
    fit_says (λ a. ⊥) answer takes.asides (task_not_refused answer takes.finished) why
not_both (LayOut keep patches) bytes answer takes why = lay_out_not_refused answer takes why
not_both (Grids keep patches by) bytes (TooFine faces kept) takes (layout, laid_out, fine) = search rules
not_both (Grids keep patches by) bytes answer takes why = lay_out_not_refused answer takes.has why

-- What a source holds that is not too tangled is refused for its least lengths alone.
solved : (command : Command) (left : Told) → IsUntangled command left → (bytes : Bytes)
    × SourceHolds command left bytes × ((answer : Answer) → Refuses command bytes answer → IsSettled answer)
solved (Remesh settings auto) left held = (held.bytes, (held.held, held.within), task_settles held)
solved (Bench size) left held = (
  [],
  refl,
  λ answer. bench_says IsSettled size answer held.manifold
      (λ layout cut. layout_settles old_lengths bench_settings Never layout answer (held.untangled layout cut)),
)
solved (Crease settings) left held = search rules
solved (Size edge floor) left held = (
  held.held.bytes,
  (held.held.held, held.held.within),
  λ answer. size_says IsSettled edge floor answer held.held.mesh held.near (task_settles held.held answer),
)
solved (Coarse settings) left held = (held.bytes, (held.held, held.within), task_settles held)
solved (Fit fit) left held = (
  held.held.bytes,
  (held.held.held, held.held.within),
  λ answer. fit_says IsSettled answer held.asides (task_settles held.held answer),
)
solved _ left held = absurd held

-- What a source gave whole is what it held.
same_bytes : (before now : Told) (bytes held : Bytes) → before ≡ Some held → before ≡ gave bytes now → IsEmptied now
    → bytes ≡ held
same_bytes before now bytes held h1 h2 h3 = search rules

same_read : (command : Command) (input : Change) (bytes held : Bytes) → Reads command input bytes
    → SourceHolds command input.told held → bytes ≡ held
same_read (Bench size) input bytes held read holds = read.1 ∙ sym holds
same_read _ input bytes held read holds = same_bytes input.told input.told_now bytes held holds.0 read.given read.ended

-- It did not give too many.
not_too_long : (before now : Told) (held : Bytes) → before ≡ Some held → length held ≤ MAX_BYTES
    → (more : GaveMore MAX_BYTES before now) → before ≡ gave more.piece now → ⊥
not_too_long before now held h1 h2 more h3 = search (rules, length-append)

not_too_many : (command : Command) (input : Change) (held : Bytes) → SourceHolds command input.told held
    → ReadsTooMany command input → ⊥
not_too_many (Bench size) input held holds more = absurd more
not_too_many _ input held holds more = not_too_long _ _ held holds.0 holds.1 more more.moved

-- A fault of reading is one of the source.
rose_if : (command : Command) (input : Change) → FailsToRead command input → Rose input.faults input.faults_now
rose_if (Bench size) input fault = absurd fault
rose_if _ input fault = fault

-- A command ends as its refusals of what the source holds say, or memory is wanting or a stream failed.
ends_so : (Says : Answer → Type 0) (command : Command) (input out : Change) (answer : Answer) (held : Bytes)
    → SourceHolds command input.told held → Says Done
    → ((refusal : Answer) → Refuses command held refusal → Says refusal) → Cause command input out answer
    → Says answer ⊎ WasShort input out answer
ends_so Says command input out Done held holds done says why = inl done
ends_so Says command input out Usage held holds done says why = absurd why
ends_so Says command input out (Limit AllBytes line) held holds done says why = search (rules, not_too_many)
ends_so Says command input out ReadFault held holds done says why = inr (inr (inl (rose_if command input why)))
ends_so Says command input out WriteFault held holds done says why = inr (inr (inr why.fault))
ends_so Says command input out Memory held holds done says why = inr (inl refl)
ends_so Says command input out answer held holds done says why = search (rules, same_read)

-- Good bytes are done.
pub completes : (command : Command) (input out : Change) (answer : Answer) → Cause command input out answer
    → IsGood command input.told → (answer ≡ Done) ⊎ WasShort input out answer
completes command input out answer why good = ends_so (λ a. a ≡ Done) command input out answer good.bytes good.held refl
    (λ refusal bad. absurd (not_both command good.bytes refusal good.taken bad)) why

-- A network that is not too tangled gets least lengths.
pub settles : (command : Command) (input out : Change) (answer : Answer) → Cause command input out answer
    → IsUntangled command input.told → IsSettled answer ⊎ WasShort input out answer
settles command input out answer why held =
    let found = solved command input.told held in
    ends_so IsSettled command input out answer found.0 found.1 tt found.2 why

-- What was read is what was said.
same_command : (read other : Command) → (◌≡◌ {A = Result Command WordsFail} (Ok read) (Ok other))
    ⊎ (Ok read ≡ Err words_fail.Memory) → other ≡ read
same_command read other (inl is) = cc
same_command read other (inr none) = absurd cc

-- The answer to words is one of two.
words_end : (fail : WordsFail) (answer : Answer) → answer ≡ answer_of_words fail
    → ((answer ≡ answers.Usage) × (fail ≡ words_fail.Usage)) ⊎ (answer ≡ answers.Memory)
words_end words_fail.Usage answer is = inl (is, refl)
words_end words_fail.Memory answer is = inr is

module _ {S O E : Type 0} (words : Words) (input : Stream S) (out : Stream O) (err : Stream E) where
  -- The words are no command's, or there was no memory to read them.
  pub words_run : (fail : WordsFail) (answer : Answer) (line : Bytes) → answer ≡ answer_of_words fail
      → (fail ≡ words_fail.Usage → (k : Command) → ¬ IsCommand words k) → line ≡ error_line [] answer
      → Said line err.change
      → IsStill input → IsStill out → input.change.faults_now ≡ input.change.faults → RunsTo words input out err answer
  words_run fail answer line is refuses text said unread untouched calm = record {
    usage = λ usage. elim end [
      | inl none ↦ λ accepted. refuses none.1 accepted.command accepted.line
      | inr memory ↦ absurd (cc (usage, memory))
    ];
    ran = λ usage memory. absurd (elim end [ inl none ↦ usage none.0 | inr wants ↦ memory wants ]);
    reread = λ done. absurd (not_done done);
    told = λ refused. says_words fail answer line is text said;
    complete = λ command spoken good. inr (inl (short command spoken));
    settled = λ command spoken held. inr (inl (short command spoken));
    untouched = λ _ _. untouched;
    quiet = λ done. absurd (not_done done);
    unread = λ _. unread;
    unasked = λ _ _. unread;
    calm = λ _ _. calm;
  }
    where
      end : ((answer ≡ answers.Usage) × (fail ≡ words_fail.Usage)) ⊎ (answer ≡ answers.Memory)
      end = words_end fail answer is

      not_done : answer ≡ answers.Done → ⊥
      not_done done = elim end [ inl none ↦ cc (done, none.0) | inr memory ↦ cc (done, memory) ]

      short : (command : Command) → IsCommand words command → answer ≡ answers.Memory
      short command spoken = elim end [ inl none ↦ absurd (refuses none.1 command spoken) | inr memory ↦ memory ]

  module _ (read : Command) (spoken : IsCommand words read) (accepts : (k : Command) → IsCommand words k
      → (◌≡◌ {A = Result Command WordsFail} (Ok read) (Ok k)) ⊎ (Ok read ≡ Err words_fail.Memory))
      (unasked : (size : ℕ) → Bench size ≡ read → IsStill input) where
    -- The command is done.
    pub done_run : Finished read input.change out.change → IsStill err → RunsTo words input out err answers.Done
    done_run finished quiet = record {
      usage = λ never. absurd cc;
      ran = λ usage memory. record { command = read; line = spoken; cause = finished.wrote };
      reread = λ _. record { command = read; line = spoken; wrote = finished.wrote; read = finished.read };
      told = λ refused. absurd (refused refl);
      complete = λ command line good. inl refl;
      settled = λ command line held. inl tt;
      untouched = λ refused _. absurd (refused refl);
      quiet = λ _. quiet;
      unread = λ never. absurd cc;
      unasked = λ size line. unasked size (same_command read (Bench size) (accepts (Bench size) line));
      calm = λ _ _. finished.calm;
    }

    -- It is refused.
    pub refused_run : (r : Refusal) (answer : Answer) (names : List ℕ) (line : Bytes) → answer ≡ answer_of r
        → names ≡ names_of r → answer ≢ answers.Done → answer ≢ answers.Usage → Ended read input.change out.change r
        → (answer_of r ≢ answers.WriteFault → IsStill out) → line ≡ error_line names answer → Said line err.change
        → RunsTo words input out err answer
    refused_run r answer names line is named refused accepted ended untouched text said = record {
      usage = λ usage. absurd (accepted usage);
      ran = λ usage memory. record { command = read; line = spoken; cause = cause };
      reread = λ done. absurd (refused done);
      told = λ _. says_why r answer names line spoken is named ended.names text said;
      complete = λ command other good. completes read input.change out.change answer cause
          (subst (λ (k : Command). IsGood k input.change.told)
          (same_command read command (accepts command other)) good);
      settled = λ command other held. settles read input.change out.change answer cause
          (subst (λ (k : Command). IsUntangled k input.change.told)
          (same_command read command (accepts command other)) held);
      untouched = λ _ other. untouched (λ fault. other (is ∙ fault));
      quiet = λ done. absurd (refused done);
      unread = λ usage. absurd (accepted usage);
      unasked = λ size other. unasked size (same_command read (Bench size) (accepts (Bench size) other));
      calm = λ fault memory. ended.calm (λ e. fault (is ∙ e)) (λ e. memory (is ∙ e));
    }
      where
        cause : Cause read input.change out.change answer
        cause = subst (Cause read input.change out.change) (sym is) ended.cause
