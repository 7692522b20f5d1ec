-- Where a text and the one that is made differ.
use Rattle.std.proofs.Common.{rules, ◌≡◌, ◌≢◌, ◌≤◌, ◌+◌, ◌-◌, ℕ, suc, [], ◌∷◌, ◌++◌, length, take, refl, ap, sym, ◌∙◌}
use Rattle.std.proofs.Common.{subst, arith, append-nil, length-append, Ok, inr, Bool, inl}
use Rattle.std.proofs.{Math.Seq.take-append_seam, lemmas.Bool.false≢true}
use Rattle.def_run.specs.declared.check_fail.CheckFail.TheVariants.{NotAccepted, Far, Tangled, NotManifold, Old}
use Rattle.def_run.specs.Check.{IsNoPair, IsCountedPair, IsAsked, head_of, HasOldSoup, RefusesOldText}
use Rattle.def_run.specs.{Judging.DifferFrom, Judging.IsReason, declared.check_fail.CheckFail.CheckFail}
use Rattle.def_run.specs.{CheckFails.IsPairFail, Remesh.IsTracedLayout, declared.command.Command.TheVariants.Remesh}
use Rattle.def_run.specs.{declared.answer.Why.Why, Mesh.IsMeshText, Map.WritesNew}
use Rattle.def_io.specs.{Bytes.Bytes, Lines.tail_of, Lines.lines_of}
use Rattle.qm_check.specs.{Checked.IsDifference, Ready.IsOld, Ready.IsReady, Ready.IsNoOld, declared.ready.Ready.Ready}
use Rattle.qm_check.specs.{Judged.Finishes, Judged.IsTextFail, Judged.judged_by, declared.judging.Finished.Finished}
use Rattle.qm_check.specs.{Making.IsFound, Making.IsReadyFor, Making.IsUnmade}
use Rattle.def_output.specs.Compared.{Compared, Differs, IsAlike}
use Rattle.remesh_laws.proofs.{MarkedLines.pair_law, Asides.one_last}
use Rattle.def_flow.specs.{Network.network, declared.net.Settings.Settings}
use Rattle.def_certtext.specs.{HeadLine.IsLastHead, HeadLine.HasNoHead, HeadLine.begins_head, Reading.IsHead}
use Rattle.def_remesh.specs.{TextLaws.made_by, TextLaws.IsSolid, NewPoints.lengths_in, Checked.IsCheckedPair}
use Rattle.def_remesh.specs.{Tasks.Task, Tasks.remesh_task, Tasks.old_lengths, Certified.IsShown}
use Rattle.def_text.specs.{declared.refusal.ObjFail.ObjFail, Text.text_soup, Text.soup_in, FaceSet.FaceSet}
use Rattle.qm_check.proofs.{Tasks.shown_by, Tasks.found, Points.ok_or_err, Points.one_ok, Verdicts.untangled}
use Rattle.{def_layout.specs.Layouts.Layout, def_layout.specs.Layouts.gluing_of, def_written.specs.NewFaces.face_count}
use Rattle.{def_mesh.specs.Manifold.IsManifold, qm_certtext.proofs.Texts.same_head}
use Rattle.def_run.specs.declared.answer.Why.TheVariants as why

-- Behind a common prefix the first bytes are the same where all up to them are.
first_same : (prefix rest more : Bytes) → take (suc (length prefix)) (prefix ++ rest)
    ≡ take (suc (length prefix)) (prefix ++ more) → take 1 rest ≡ take 1 more
first_same [] rest more same = same
first_same (x ∷ prefix) rest more same = first_same prefix rest more (cc)

-- Where they are not, the texts differ there, and that is refused.
differ_behind : (given text prefix rest more : Bytes) {count at : ℕ} {fail : CheckFail} → given ≡ prefix ++ rest
    → text ≡ prefix ++ more → take 1 rest ≢ take 1 more → count ≡ length prefix → at ≡ count
    → fail ≡ NotAccepted (why.Byte (at + 1)) → IsDifference given text fail
differ_behind given text prefix rest more {at = at} is told apart counted same fails =
    let back : at + 1 - 1 ≡ length prefix = omega arith in
    let next : at + 1 ≡ suc (length prefix) = omega arith in
    let differ : DifferFrom (prefix ++ rest) (prefix ++ more) (at + 1) = record {
      counted = omega arith;
      before = rw back (take-append_seam prefix rest ∙ sym (take-append_seam prefix more));
      there = λ alike. apart (first_same prefix rest more
          (subst (λ (n : ℕ). take n (prefix ++ rest) ≡ take n (prefix ++ more)) next alike));
    } in
    rw (fails, is, told) differ

some_first : (rest : Bytes) → rest ≢ [] → take 1 rest ≢ []
some_first [] some same = some refl
some_first (x ∷ rest) some same = cc

module _ (given text : Bytes) {before now : Compared} {at : ℕ} {fail : CheckFail}
    (fresh : before ≡ record { at = 0; rest = given }) (same : at ≡ now.at)
    (fails : fail ≡ NotAccepted (why.Byte (at + 1))) where
  -- The bytes stop being alike.
  pub stopped_differ : Differs before now text → IsDifference given text fail
  stopped_differ is = search (rules, differ_behind)

  -- The text is alike, and more is given.
  pub longer_differ : IsAlike before now text → now.rest ≢ [] → IsDifference given text fail
  longer_differ is some = differ_behind given text text now.rest []
      (sym (ap (λ (c : Compared). c.rest) fresh) ∙ is.alike) (sym (append-nil text)) (some_first now.rest some)
      (omega (arith, is.counted, ap (λ (c : Compared). c.at) fresh)) same fails

pub stopped_within : (given text : Bytes) {before now : Compared} → before ≡ record { at = 0; rest = given }
    → Differs before now text → now.at ≤ length given
stopped_within given text {now = now} fresh is =
    let all = ap length (sym is.alike ∙ ap (λ (c : Compared). c.rest) fresh) in
    omega (arith, is.counted, ap (λ (c : Compared). c.at) fresh, length-append is.prefix now.rest)

-- What check says of a pair, from what is judged of its text.

-- A text without a head line is no pair.
pub headless : (bytes : Bytes) → HasNoHead (lines_of bytes) → ¬ IsCheckedPair bytes
headless bytes none pair = false≢true (sym (none pair.line pair.divided.there) ∙ pair.divided.begins)

-- A pair is divided by the last head line, and what its lines in front say is said of those in front of it.
pair_line : (bytes : Bytes) (line : ℕ) (pair : IsCheckedPair bytes) → IsLastHead (lines_of bytes) line
    → pair.line ≡ line
pair_line bytes line pair divided = one_last begins_head (lines_of bytes) pair.line line pair.divided divided

pair_said : (bytes : Bytes) (line : ℕ) (pair : IsCheckedPair bytes) → IsLastHead (lines_of bytes) line
    → text_soup 1 (take line (lines_of bytes)) ≡ Ok pair.soup
pair_said bytes line pair divided = rw (← (pair_line bytes line pair divided)) pair.said

-- One whose old text is refused is no pair.
pub old_refused : (bytes : Bytes) (fail : ObjFail) → RefusesOldText bytes fail → ¬ IsCheckedPair bytes
old_refused bytes fail bad pair = ok_or_err (pair_said bytes bad.line pair bad.divided) bad.said

-- Nor one whose old text has faces that are no manifold.
pub old_faulty : (bytes : Bytes) (line : ℕ) (soup : FaceSet) → HasOldSoup bytes line soup → ¬ IsManifold soup.faces
    → ¬ IsCheckedPair bytes
old_faulty bytes line soup old bad pair = bad (subst (λ (s : FaceSet). IsManifold s.faces)
    (one_ok (pair_said bytes line pair old.divided) old.said) pair.manifold)

module _ (bytes front : Bytes) (line : ℕ) (divided : IsLastHead (lines_of bytes) line) (lines : lines_of front
    ≡ take line (lines_of bytes)) where
  has_soup : (soup : FaceSet) → soup_in front ≡ Ok soup → HasOldSoup bytes line soup
  has_soup soup said = record { divided = divided; said = ap (text_soup 1) (sym lines) ∙ said }

  pub no_old : (fail : CheckFail) → IsNoOld front fail → IsPairFail bytes fail
  no_old (Old fail) (other, says) =
      let said = ap (text_soup 1) (sym lines) ∙ says in
      let refused : RefusesOldText bytes fail = record { line = line; divided = divided; said = said } in
      (refused, other, old_refused bytes fail refused)
  no_old (NotManifold place soup) (says, fault, refuted) = search (rules, has_soup, old_faulty)
  no_old _ none = search none

  module _ (soup : FaceSet) (is : IsOld front soup) where
    soup_is : (pair : IsCheckedPair bytes) → pair.soup ≡ soup
    soup_is pair = one_ok (pair_said bytes line pair divided) (has_soup soup is.mesh.said).said

    -- The line that divides a pair is the head line of its settings.
    pair_head : (pair : IsCheckedPair bytes) → IsHead (head_of bytes line) pair.settings pair.auto
    pair_head pair = rw (← (pair_line bytes line pair divided))
        ((pair_law bytes pair (subst IsSolid (sym (soup_is pair)) is.solid)
        (made_by pair.settings pair.auto pair.remeshed.certificates)).1 refl).settings

    -- The line behind the old text is no head line.
    pub no_head : ((settings : Settings) (auto : Bool) → ¬ IsHead (head_of bytes line) settings auto)
        → IsPairFail bytes (NotAccepted why.Head)
    no_head none =
        let refuted : IsCheckedPair bytes → ⊥ = λ pair. none pair.settings pair.auto (pair_head pair) in (
          record {
            line = line;
            soup = soup;
            old = has_soup soup is.mesh.said;
            manifold = is.mesh.manifold;
            headless = none;
            refuted = refuted;
          },
          refuted,
        )

-- The last head line divides the bytes, those in front have this soup, and the line has these settings.
pub record IsAskedAt (bytes front : Bytes) (line : ℕ) (soup : FaceSet) (settings : Settings) (auto : Bool) : Type
    0 where
  pub divided : IsLastHead (lines_of bytes) line
  pub lines : lines_of front ≡ take line (lines_of bytes)
  pub read : IsOld front soup
  pub head : IsHead (head_of bytes line) settings auto

module _ {bytes front : Bytes} {line : ℕ} {soup : FaceSet} {settings : Settings} {auto : Bool}
    (given : IsAskedAt bytes front line soup settings auto) where
  abbrev text : Bytes
  text = tail_of line bytes

  -- A pair is what `remesh` writes with the settings of the line.
  pair_writes : IsCheckedPair bytes → WritesNew (Remesh settings auto) front text
  pair_writes pair =
      let at = pair_line bytes line pair given.divided in
      let soups = soup_is bytes front line given.divided given.lines soup given.read pair in
      let heads = same_head (head_of bytes line) pair.settings settings pair.auto auto
      (pair_head bytes front line given.divided given.lines soup given.read pair) given.head in
      record {
        soup = soup;
        mesh = given.read.mesh;
        task = remesh_task settings auto soup.faces;
        asked = refl;
        shown = rw (← at, ← soups, ← heads.0, ← heads.1)
            (record { finished = pair.remeshed; certified = pair.certified });
      }

  abbrev asked_with : (old : FaceSet) (mesh : IsMeshText front old) (layout : Layout)
      (cut : IsTracedLayout old.faces layout) → IsAsked bytes
  asked_with old mesh layout cut = record {
    line = line;
    soup = old;
    old = has_soup bytes front line given.divided given.lines old mesh.said;
    manifold = mesh.manifold;
    settings = settings;
    auto = auto;
    head = given.head;
    layout = layout;
    cut = cut;
  }

  -- Nothing is made ready to judge it by.
  pub unmade_fails : (fail : CheckFail) → IsUnmade (Remesh settings auto) front fail → IsPairFail bytes fail
  unmade_fails (Tangled count) (inl none, never) = absurd none
  unmade_fails (Tangled count) (inr (task, layout, has, tangled), never) =
      let refuted : IsCheckedPair bytes → ⊥ = λ pair. never text (pair_writes pair) in (
        record {
          asked = asked_with has.soup has.mesh layout (rw has.asked at has.cut);
          tangled = rw has.asked at tangled;
          refuted = refuted;
        },
        refuted,
      )
  unmade_fails (Far sum) (inl none, never) = absurd none
  unmade_fails (Far sum) (inr (task, layout, has, none), never) = absurd none
  unmade_fails _ none = search none

  module _ {ready : Ready} (for : IsReadyFor (Remesh settings auto) front ready) (same : ready.cut.soup ≡ soup) where
    -- The task is that of a remesh.
    abbrev task : Task
    task = remesh_task settings auto ready.cut.soup.faces

    pub is : IsReady task ready
    is = subst (λ (t : Task). IsReady t ready) for.only.asked for.holds

    pub ready_mesh : IsMeshText front ready.cut.soup
    ready_mesh = rw same given.read.mesh

    -- The text is another one.
    other : (why : Why) → IsReason (judged_by bytes line ready.cut for.task) why
        × (¬ IsShown for.task ready.cut.soup text) → IsNoPair bytes why × (¬ IsCheckedPair bytes)
    other why (reason, none) =
        let refuted : IsCheckedPair bytes → ⊥ = λ pair. none (shown_by (Remesh settings auto) front text ready.cut.soup
        for.task ready_mesh for.only (pair_writes pair)) in (
          record {
            asked = asked_with ready.cut.soup ready_mesh ready.cut.layout is.laid_out.laid;
            untangled = untangled old_lengths ready.cut.layout settings (network ready.net) is.net;
            reason = subst (λ (t : Task). IsReason (judged_by bytes line ready.cut t) why) for.only.asked reason;
            refuted = refuted;
          },
          refuted,
        )

    pub text_fails : (fail : CheckFail) → IsTextFail (judged_by bytes line ready.cut for.task) fail
        → IsPairFail bytes fail
    text_fails (NotAccepted why.NoHead) both = absurd both
    text_fails (NotAccepted why.Head) both = absurd both
    text_fails (NotAccepted why) both = other why both
    text_fails _ none = search none

    module _ {finished : Finished} (finishes : Finishes for.task ready text finished) where
      abbrev by : Finishes task ready text finished
      by = subst (λ (t : Task). Finishes t ready text finished) for.only.asked finishes

      -- It is that of a remesh.
      abbrev pub remesh_found : IsFound (Remesh settings auto) front text finished
      remesh_found = found task ready_mesh refl is by

      -- These numbers are told of it.
      pub counted : {arcs faces deviates : ℕ} → arcs ≡ length finished.new.layout.arcs
          → faces ≡ face_count (gluing_of finished.new.layout) (lengths_in finished.new.lengths)
          → deviates ≡ finished.deviation → IsCountedPair bytes arcs faces deviates
      counted arcs_told faces_told deviates_told = record {
        pair = record {
          line = line;
          divided = given.divided;
          soup = ready.cut.soup;
          said = (has_soup bytes front line given.divided given.lines ready.cut.soup ready_mesh.said).said;
          manifold = ready_mesh.manifold;
          settings = settings;
          auto = auto;
          in_range = given.head.in_range;
          remeshed = by.shown.finished;
          certified = by.shown.certified;
        };
        arcs_told = rw by.new at arcs_told;
        faces_told = rw by.new at faces_told;
        net = network ready.net;
        of_layout = remesh_found.of_layout.is;
        deviation_told = deviates_told ∙ by.deviates;
      }
