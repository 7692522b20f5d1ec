-- Refusals of the steps of a run as answers with their causes, and what a command keeps that writes a text.
use Rattle.std.proofs.Common.{rules, Err, List, Ok, Result, [], ap, arith, length, refl, subst, sym, ℕ, ◌++◌, ◌-◌, ◌∙◌}
use Rattle.std.proofs.{Common.◌∷◌, Common.◌≡◌, Common.◌≢◌, lemmas.List.take_all}
use Rattle.std.specs.Prelude.{IfErr, IfOk, IsErrAnd, IsErrOf, OnOk, slice_range}
use Rattle.def_certtext.specs.{CertLines.certificates_of, CertLines.used, declared.certs.Terms.Terms}
use Rattle.def_io.specs.Moves.{Change, GaveMore, IsStill, Stream, TookPrefix, took}
use Rattle.def_io.specs.{Bytes.Bytes, Bytes.Lines, Faults.Rose, declared.fails.WriteFail.WriteFail}
use Rattle.def_remesh.specs.{Keeping.IsKept, NewPoints.lengths_in, Placings.IsMeshLayout, Tasks.Task, Tasks.Wish}
use Rattle.def_run.specs.Causes.{Cause, FailsToRead, Reads, ReadsTooMany, Refuses, Writes}
use Rattle.def_run.specs.{CommandLines.IsCommand, Crease.HasMarkFail, ErrorLines.error_line, Fit.HasAsideFail}
use Rattle.def_run.specs.{LayOut.HasKeptFail, Mesh.IsMeshText, Mesh.IsNoMesh, Reread.Rereads}
use Rattle.def_run.specs.{declared.answer.Answer.Answer, declared.command.Command.Command}
use Rattle.def_run.specs.declared.command.Command.TheVariants.{Bench, Check, Crease, Fit, Grids, LayOut, Map}
use Rattle.def_run.specs.Messages.{AreNames, LooksAt, Said, SaidWhy}
use Rattle.def_text.specs.{FaceSet.FaceSet, Fails.of_obj, Input.ReadRefused, Input.ReadWhole, Text.soup_in, Types.Words}
use Rattle.def_text.specs.{declared.limits.TheConstants.MAX_BYTES, declared.refusal.ObjFail.ObjFail}
use Rattle.qm_top.specs.Refusals.{Ended, IsInputRefusal, IsNoMeshOf, answer_of, answer_of_layout, answer_of_marks}
use Rattle.qm_top.specs.Refusals.{answer_of_obj, answer_of_words, names_of}
use Rattle.qm_top.specs.{Meshless.IsMeshless, Runs.HasRun, declared.named.NamedPlace.NamedPlace}
use Rattle.qm_top.specs.Writing.{BrokeText, IsOfLayout, IsUnwritten, WroteText, refusal_of_put}
use Rattle.qm_top.specs.declared.refusal.Refusal.TheVariants.{Marks, NotManifold, Soup, Write}
use Rattle.{def_layout.specs.FaceLayouts.IsCutLayout, def_layout.specs.Layouts.Layout}
use Rattle.{def_mesh.specs.Manifold.IsManifold, def_mesh.specs.declared.Place.Place}
use Rattle.{def_remesh.specs.declared.kept.LayoutFail.LayoutFail, def_run.specs.declared.words.WordsFail.WordsFail}
use Rattle.{qm_top.specs.declared.refusal.Refusal.Refusal, qm_write.specs.declared.text.PutFail.PutFail}
use Rattle.{def_marks.specs.declared.fail.MarkFail.MarkFail, qm_top.proofs.NeverBytes.never_bytes}
use Rattle.{qm_write.proofs.Framing.text_is, remesh_laws.proofs.Keeps.shown, remesh_laws.specs.Keeps.ShowsTask}
use Rattle.qm_write.specs.{Framing.framed_text, declared.remesh.Remesh.Remesh as NewMesh, declared.text.Framed.Framed}
use Rattle.def_marks.specs.declared.fail.MarkFail.TheVariants as marks
use Rattle.def_run.specs.declared.answer.Answer.TheVariants as answers
use Rattle.def_run.specs.declared.words.WordsFail.TheVariants as words
use Rattle.def_text.specs.declared.refusal.ObjFail.TheVariants as obj
use Rattle.def_text.specs.declared.refusal.SoupFail.TheVariants as soup
use Rattle.qm_top.specs.declared.refusal.Refusal.TheVariants as refusals
use Rattle.qm_write.specs.declared.text.PutFail.TheVariants as puts

-- ---- Refusals that name no place, and those that do.

abbrev pub IsNameless : (r : Refusal) → Type 0
IsNameless (NotManifold named) = ⊥
IsNameless _ = Unit {0}

nameless : (r : Refusal) (place : Place) → IsNameless r → answer_of r ≡ answers.NotManifold place → ⊥
nameless r place h1 h2 = search rules

-- A refusal that names no place ends a command whose source has no new fault.
pub ended : {command : Command} {input out : Change} {r : Refusal} → IsNameless r
    → Cause command input out (answer_of r) → input.faults_now ≡ input.faults → Ended command input out r
ended {r = r} other cause calm =
    record { cause = cause; names = λ place is. absurd (nameless r place other is); calm = λ f m. calm }

-- So does a place where the mesh that the command looks at is no manifold.
pub place_ended : {command : Command} {input out : Change} {named : NamedPlace} (bytes : Bytes) (soup : FaceSet)
    → Reads command input bytes → Refuses command bytes (answers.NotManifold named.place) → LooksAt command bytes soup
    → named.names.items ≡ soup.names → input.faults_now ≡ input.faults → Ended command input out (NotManifold named)
place_ended bytes soup whole said looks numbers calm = search rules

-- So does want of memory.
pub memory_ended : {command : Command} {input out : Change} → Ended command input out refusals.Memory
memory_ended = record { cause = tt; names = λ p is. cc; calm = λ f m. absurd (m refl) }

-- ---- Commands that read their input whole, and refuse what has no mesh.

abbrev pub TakesMesh : (command : Command) → Type 0
TakesMesh Check = ⊥
TakesMesh (Bench size) = ⊥
TakesMesh Map = ⊥
TakesMesh _ = Unit {0}

no_mesh : (command : Command) (bytes : Bytes) (answer : Answer) → TakesMesh command → IsNoMesh bytes answer
    → Refuses command bytes answer
no_mesh command bytes h1 h2 = search rules

pub record NeedsMesh (command : Command) : Type 0 where
  pub refuses : (bytes : Bytes) (answer : Answer) → IsNoMesh bytes answer → Refuses command bytes answer
  pub reads : (input : Change) (bytes : Bytes) → ReadWhole MAX_BYTES input.told input.told_now bytes
      → Reads command input bytes
  pub looks : (bytes : Bytes) (soup : FaceSet) → soup_in bytes ≡ Ok soup → LooksAt command bytes soup
  pub too_many : (input : Change) → GaveMore MAX_BYTES input.told input.told_now → ReadsTooMany command input
  pub fails : (input : Change) → Rose input.faults input.faults_now → FailsToRead command input

pub needs : (command : Command) → TakesMesh command → NeedsMesh command
needs Check takes = absurd takes
needs (Bench size) takes = absurd takes
needs Map takes = absurd takes
needs command takes = record {
  refuses = λ bytes answer. no_mesh command bytes answer tt;
  reads = λ input bytes whole. whole;
  looks = λ bytes soup said. said;
  too_many = λ input more. more;
  fails = λ input rose. rose;
}

-- A line beside the mesh is refused.
abbrev pub HasLineFailOf : (command : Command) (bytes : Bytes) (fail : MarkFail) → Type 0
HasLineFailOf (Crease settings) bytes fail = HasMarkFail bytes fail
HasLineFailOf (Fit fit) bytes fail = HasAsideFail fit bytes fail
HasLineFailOf (LayOut keep patches) bytes fail = HasKeptFail keep bytes fail
HasLineFailOf (Grids keep patches by) bytes fail = HasKeptFail keep bytes fail
HasLineFailOf _ bytes fail = ⊥

pub lines_refuse : (command : Command) (bytes : Bytes) (fail : MarkFail) → fail ≢ marks.Memory
    → HasLineFailOf command bytes fail → Refuses command bytes (answer_of_marks fail)
lines_refuse command bytes h1 h2 = search rules

module _ (command : Command) (takes : TakesMesh command) (input out : Change) where
  -- The refusal of a text has its cause.
  text_cause : (fail : ObjFail) → ReadRefused MAX_BYTES input.told input.told_now fail
      → Cause command input out (answer_of_obj fail)
  text_cause fail h1 = search (rules, never_bytes)

  -- A refusal of the input ends such a command.
  input_ended : (r : Refusal) → IsInputRefusal input r → Ended command input out r
  input_ended (Soup soup.Fault) why = search rules
  input_ended (Soup soup.TooLong) why = ended tt (refl, (needs command takes).too_many input why.0) why.1
  input_ended (Soup (soup.Obj fail)) why = ended tt (text_cause fail why.0) why.2
  input_ended (Soup soup.Memory) why = record { cause = tt; names = λ p is. cc; calm = λ f m. absurd (m refl) }
  input_ended (NotManifold named) why =
      let bytes = why.read.bytes in
      place_ended bytes why.soup ((needs command takes).reads input bytes why.read.whole)
      ((needs command takes).refuses bytes (answers.NotManifold named.place) (record {
        soup = why.soup;
        said = why.read.said;
        fault = why.fault;
        refuted = why.refuted;
      })) ((needs command takes).looks bytes why.soup why.read.said) why.named why.calm
  input_ended refusals.Memory why = memory_ended
  input_ended _ why = absurd why

  module _ {bytes : Bytes} (whole : ReadWhole MAX_BYTES input.told input.told_now bytes)
      (calm : input.faults_now ≡ input.faults) where
    -- So does that of a text that was read.
    meshless_ended : (r : Refusal) → IsMeshless bytes r → Ended command input out r
    meshless_ended (Soup soup.Memory) why = input_ended (Soup soup.Memory) tt
    meshless_ended (Soup (soup.Obj fail)) why =
        input_ended (Soup (soup.Obj fail)) (record { bytes = bytes; whole = whole; said = why.0 }, why.1, calm)
    meshless_ended (NotManifold named) why = input_ended (NotManifold named) (record {
      soup = why.soup;
      read = record { bytes = bytes; whole = whole; said = why.said };
      fault = why.why.0;
      refuted = why.why.1;
      named = why.why.2;
      calm = calm;
    })
    meshless_ended refusals.Memory why = memory_ended
    meshless_ended _ why = absurd why

    -- A line beside its mesh is refused.
    marks_ended : (fail : MarkFail) → (fail ≢ marks.Memory → HasLineFailOf command bytes fail)
        → Ended command input out (Marks fail)
    marks_ended marks.Memory why = record { cause = tt; names = λ p is. cc; calm = λ f m. absurd (m refl) }
    marks_ended fail why = ended tt (record {
      bytes = bytes;
      whole = (needs command takes).reads input bytes whole;
      said = lines_refuse command bytes fail (λ e. cc) (why (λ e. cc));
    }) calm

module _ {O : Type 0} {command : Command} {input : Change} {out : Stream O} {result : Result (Unit {0}) Refusal} where
  -- A refusal that is handed on ends the command as it was, where nothing was written.
  pub handed_run : (r : Refusal) → IsErrAnd result (λ e. e ≡ r) → Ended command input out.change r → IsStill out
      → HasRun command input out result
  handed_run = search rules

  -- The input has no mesh.
  pub halts : (r : Refusal) → TakesMesh command → IsErrAnd result (λ e. e ≡ r) → IsInputRefusal input r → IsStill out
      → HasRun command input out result
  halts r takes is why same = handed_run r is (input_ended command takes input out.change r why) same

  module _ {bytes : Bytes} (takes : TakesMesh command) (whole : ReadWhole MAX_BYTES input.told input.told_now bytes)
      (calm : input.faults_now ≡ input.faults) where
    -- Nor has the text that was read.
    pub meshless_run : (r : Refusal) → IsErrAnd result (λ e. e ≡ r) → IsMeshless bytes r → IsStill out
        → HasRun command input out result
    meshless_run r is why same = handed_run r is (meshless_ended command takes input out.change whole calm r why) same

    -- A line beside its mesh is refused.
    pub marks_run : (fail : MarkFail) → IsErrAnd result (λ e. e ≡ Marks fail)
        → (fail ≢ marks.Memory → HasLineFailOf command bytes fail) → IsStill out → HasRun command input out result
    marks_run fail is why same =
        handed_run (Marks fail) is (marks_ended command takes input out.change whole calm fail why) same

-- ---- What is told of a refusal.

-- The line that was said has the answer of the refusal and the numbers that it keeps.
pub says_why : {words : Words} {command : Command} {input err : Change} (r : Refusal) (answer : Answer) (names : List ℕ)
    (line : Bytes) → IsCommand words command → answer ≡ answer_of r → names ≡ names_of r → AreNames command input
    (answer_of r) (names_of r) → line ≡ error_line names answer → Said line err → SaidWhy words input err answer
says_why {command = command} {err = err} r answer names line accepted is named of_file says said = record {
  names = names;
  of_the_file = λ place told. record { command = command; line = accepted; numbered = rw (is, named) of_file };
  said = subst (λ (l : Bytes). Said l err) says said;
}

-- The line that was said of words has their answer, which names no place.
pub says_words : {words : Words} {input err : Change} (fail : WordsFail) (answer : Answer) (line : Bytes)
    → answer ≡ answer_of_words fail → line ≡ error_line [] answer → Said line err → SaidWhy words input err answer
says_words {err = err} fail answer line is says said = record {
  names = [];
  of_the_file = λ p named. absurd (words_place fail p (sym is ∙ named));
  said = subst (λ (l : Bytes). Said l err) says said;
}
  where
    words_place : (fail : WordsFail) (p : Place) → answer_of_words fail ≡ answers.NotManifold p → ⊥
    words_place words.Usage p is = cc
    words_place words.Memory p is = cc

-- ---- The mesh of a text.

-- All lines are those from the first on.
pub whole_range : (xs : Lines) (n : ℕ) → n ≡ length xs → slice_range xs 0 n ≡ xs
whole_range xs n is = let e : n - 0 ≡ n = omega arith in rw e (take_all n xs (omega (arith, is)))

-- A text that has no soup has no mesh.
pub soupless : (bytes : Bytes) (fail : ObjFail) → (fail ≢ obj.Memory → soup_in bytes ≡ Err fail)
    → IsMeshless bytes (Soup (of_obj fail))
soupless bytes fail h1 = search rules

-- Nor has one whose soup is no mesh.
pub no_mesh_of : (bytes : Bytes) (soup : FaceSet) (r : Refusal) → soup_in bytes ≡ Ok soup → IsNoMeshOf soup r
    → IsMeshless bytes r
no_mesh_of bytes soup h1 h2 = search rules

-- A text with this soup, whose faces are a manifold.
pub text_meshed : (bytes : Bytes) (soup : FaceSet) (result : Result FaceSet Refusal) → soup_in bytes ≡ Ok soup
    → IfOk result (λ read. read ≡ soup) → OnOk result (IsManifold soup.faces)
    → IfOk result (λ read. IsMeshText bytes read)
text_meshed bytes soup h1 h2 h3 = search rules

-- A text that was written whole, and one that was not.
pub wrote : {says : Bytes → Type 0} {out : Change} (text : Bytes) → says text → out.told_now ≡ took out.told text
    → WroteText says out
wrote text said written = record { text = text; said = said; written = written }

pub broke : {says : Bytes → Type 0} {out : Change} (text : Bytes) → says text → TookPrefix out.told out.told_now text
    → Rose out.faults out.faults_now → BrokeText says out
broke text said prefix fault = record { text = text; said = said; prefix = prefix; fault = fault }

-- What is known of a command that has read its bytes: what it writes for them, and how a refusal ends it.
pub record IsWriter (command : Command) (says : Bytes → Type 0) (why : Refusal → Type 0) (input out : Change) : Type
    0 where
  pub bytes : Bytes
  pub whole : Reads command input bytes
  pub calm : input.faults_now ≡ input.faults
  pub writes : (text : Bytes) → says text → Writes command bytes text
  pub read : (text : Bytes) (said : says text) → Rereads command bytes text (writes text said)
  pub ends : (r : Refusal) → why r → Ended command input out r

module _ {O : Type 0} {command : Command} {says : Bytes → Type 0} {why : Refusal → Type 0} {input : Change}
    (out : Stream O) (is : IsWriter command says why input out.change) where
  -- A text that was not written whole ends the command.
  unwritten_ends : (r : Refusal) → IsUnwritten says why out r → Ended command input out.change r
  unwritten_ends (Write fail) broke = search rules
  unwritten_ends r none = is.ends r none.1

  -- The sink is as it was, unless the write failed.
  same_sink : (r : Refusal) → IsUnwritten says why out r → answer_of r ≢ answers.WriteFault → out.now ≡ out.before
  same_sink (Write fail) broke other = absurd (other refl)
  same_sink _ none other = none.0

  pub writer_runs : (result : Result (Unit {0}) Refusal) → OnOk result (WroteText says out.change)
      → IfErr result (IsUnwritten says why out) → HasRun command input out result
  writer_runs (Ok x) wrote none = record {
    done = record {
      wrote = record {
        bytes = is.bytes;
        whole = is.whole;
        text = wrote.text;
        said = is.writes wrote.text wrote.said;
        written = wrote.written;
      };
      read = is.read wrote.text wrote.said;
      calm = is.calm;
    };
    refused = tt;
    untouched = tt;
  }
  writer_runs (Err r) wrote none = record { done = tt; refused = unwritten_ends r none; untouched = same_sink r none }

-- A layout that is refused, or want of memory, ends a command that refuses such layouts.
pub layout_ends : {command : Command} {fails : LayoutFail → Type 0} {input out : Change}
    → input.faults_now ≡ input.faults
    → ((fail : LayoutFail) → fails fail → Cause command input out (answer_of_layout fail))
    → (r : Refusal) → IsOfLayout fails r → Ended command input out r
layout_ends h1 h2 r h3 = search rules

-- Where no text is begun the sink is as it was.
pub not_begun : {O : Type 0} (says : Bytes → Type 0) (why : Refusal → Type 0) (out : Stream O)
    → ((fail : WriteFail) → why (Write fail) → ⊥)
    → out.now ≡ out.before → (r : Refusal) → why r → IsUnwritten says why out r
not_begun says why out never same (Write fail) none = absurd (never fail none)
not_begun says why out never same r none = (same, none)

-- Two facts of a value are one.
pub on_ok_both : {T E : Type 0} (P Q : Type 0) (result : Result T E) → OnOk result P → OnOk result Q
    → OnOk result (P × Q)
on_ok_both P Q (Ok value) p q = (p, q)
on_ok_both P Q (Err error) p q = tt

-- A text that was not put whole was not written whole.
pub put_refused : {O : Type 0} (says : Bytes → Type 0) (why : Refusal → Type 0) (out : Stream O) (text : Bytes)
    (fail : PutFail) → says text → why refusals.Memory
    → (IsErrOf {T = Unit {0}} (Err fail) puts.Stopped → TookPrefix out.change.told out.change.told_now text)
    → (IsErrOf {T = Unit {0}} (Err fail) puts.Stopped → Rose out.change.faults out.change.faults_now)
    → (IsErrOf {T = Unit {0}} (Err fail) puts.Memory → IsStill out) → IsUnwritten says why out (refusal_of_put fail)
put_refused says h1 h2 h3 h4 h5 = search rules

-- What is kept for what was asked is kept for what it tells.
pub kept_for : {wish : Wish} {layout : Layout} (remesh : NewMesh) {terms : Terms} → remesh.terms ≡ terms
    → IsKept wish layout terms.settings terms.rising (certificates_of remesh.certs) remesh.numbering
    → (w : Wish) × IsKept w layout remesh.terms.settings remesh.terms.rising (certificates_of remesh.certs)
    remesh.numbering
kept_for {wish} {layout} remesh same kept = search rules

-- The text of a remesh in its frame is that of the task for which it is kept.
pub framed_shown : (task : Task) (framed : Framed) (soup : FaceSet) (layout : Layout) → IsMeshLayout soup.faces layout
    → IsCutLayout soup.faces task.marks layout → framed.remesh.terms ≡ record
    { settings = task.settings; rising = task.rising } → IsKept task.wish layout task.settings task.rising
    (certificates_of framed.remesh.certs) framed.remesh.numbering → framed.head.items ≡ task.head ++ 10 ∷ []
    → framed.between.items ≡ task.between layout (lengths_in (used (certificates_of framed.remesh.certs)).x)
    → framed.shares ≡ task.shares → ShowsTask task soup (framed_text framed soup layout)
framed_shown task framed soup layout laid on same kept head between shares = subst (ShowsTask task soup)
    (sym (text_is task framed soup layout (record {
      cut = on;
      settings = ap (λ (t : Terms). t.settings) same;
      rising = ap (λ (t : Terms). t.rising) same;
      kept = kept;
      head = head;
      between = between;
      shares = shares;
    })))
    (shown task soup layout (certificates_of framed.remesh.certs) framed.remesh.numbering laid on kept)
