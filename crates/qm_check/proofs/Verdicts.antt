-- What is told of a text that is refused, and that it then finishes no task; and what a text shows that is not refused.
use Rattle.std.proofs.Common.{rules, Vec, List, Global, ◌↔◌, None, subst, sym, ℕ, Some, arith, drop, ap, inr, ◌≡◌, pos}
use Rattle.std.proofs.Common.{◌+◌, inl, Bool, ◌∙◌, refl}
use Rattle.def_certtext.specs.CertLines.{raised, Lists, risen, used, certificates_of, alone, Certificates}
use Rattle.def_certtext.specs.{Reading.HasBadLine, Reading.TellCerts, declared.certs.Rising.Rising}
use Rattle.def_certtext.specs.{declared.certs.Terms.Terms, declared.certs.Rise.Rise}
use Rattle.def_flow.specs.{Network.network, Network.Network, Network.tangle_number, Admissible.entries}
use Rattle.def_flow.specs.{Admissible.deviation, declared.net.Settings.Settings, Accepted.cert_verdict}
use Rattle.def_io.specs.{Bytes.Lines, Bytes.Bytes, Lines.tail_of, Lines.lines_of}
use Rattle.def_layout.specs.{Layouts.vertex_at, Layouts.Layout, Layouts.gluing_of, FaceLayouts.IsCutLayout}
use Rattle.def_layout.specs.{Lengths.Lengths}
use Rattle.def_remesh.specs.{Tasks.given_floors, Tasks.old_lengths, Tasks.Wish, Tasks.Task, Certified.IsShown}
use Rattle.def_remesh.specs.{Certified.IsCertified, Certified.AreKept, Certified.certificate_of, Keeping.IsKept}
use Rattle.def_remesh.specs.{Keeping.IsNetFor, Rises.risen_floors, Remeshed.AreKeptBy, Remeshed.AreCoarse}
use Rattle.def_remesh.specs.{Remeshed.finished_text, Refusals.IsTangledAt, Stitched.KeepsShapes, TextLaws.IsSolid}
use Rattle.def_remesh.specs.{NewPoints.lengths_in, CutSoups.Regrid, CutSoups.CutSoup}
use Rattle.def_run.specs.Judging.{text_in, Judged, IsLoneDoubled, AreFront, first_of, DifferFrom, AreUnneeded, IsWrong}
use Rattle.def_run.specs.Judging.{IsWrongText, AreWrong, TellsOtherText, behind_in}
use Rattle.def_run.specs.{declared.check_fail.CheckFail.CheckFail}
use Rattle.def_run.specs.{declared.check_fail.CheckFail.TheVariants.NotAccepted, declared.answer.Why.Why}
use Rattle.embedding_laws.proofs.{OneLayout.one_layout_law, Bounds.laid_of}
use Rattle.def_written.specs.{NewFaces.new_faces, Shape.KeepsShape, Edges.IsUndoubled}
use Rattle.qm_check.specs.{Ready.IsLaidOut, Ready.IsReady, Ready.TellsNothing, Ready.marks_of}
use Rattle.qm_check.specs.{declared.certificates.Checked.Checked, Checked.IsDifference, Checked.IsChecked}
use Rattle.qm_check.specs.{Checked.IsUnused, Judged.judged_by, Judged.IsTextFail, Judged.Finishes}
use Rattle.qm_check.specs.{declared.ready.Frame.Frame, declared.ready.Ready.Ready}
use Rattle.qm_write.specs.{declared.text.Framed.Framed, Framing.framed_text}
use Rattle.remesh_laws.proofs.{Keeps.least_of, ReadAgain.task_told, ReadAgain.none_silent, Tails.tail_behind}
use Rattle.remesh_laws.proofs.{Printable.cut_layout, Printable.quads_of, MarkedLines.marked_silent}
use Rattle.def_layoutnet.specs.{LayoutNet.IsNetOf, MeshLayouts.IsSomeLayout}
use Rattle.{def_text.specs.FaceSet.FaceSet, def_cut.specs.FullCut.IsFullCut, def_fit.specs.FitTasks.kept_text}
use Rattle.{qm_write.proofs.Framing.text_is, qm_layoutnet.proofs.Balance.one_net_law}
use Rattle.{qm_cert.proofs.Checked.accepted_yes, qm_certtext.proofs.Found.said_at, remesh_laws.specs.Asides.IsSilent}
use Rattle.def_run.specs.declared.answer.Why.TheVariants as why

-- ---- Certificates that are kept.

module _ (wish : Wish) (layout : Layout) (settings : Settings) (rising : Rising) where
  -- Where the lengths of one certificate double no edge, those up to it are all that are kept.
  front_whole : (floors : Lengths) (certificates others : Certificates) → AreFront certificates others
      → AreKeptBy (IsCertified wish layout settings) layout floors rising others
      → IsUndoubled (gluing_of layout) (lengths_in (used certificates).x) → certificates ≡ others
  front_whole floors (alone cert) (alone other) front kept undoubled = ap alone front
  front_whole floors (alone cert) _ front kept undoubled =
      let (u, v, doubled) = kept.1.doubled in absurd ((rw front at undoubled) u v doubled)
  front_whole floors (raised first cert) others front kept undoubled = sym front
  front_whole floors (risen first rises after) others (more, is, front) kept undoubled =
      let parts = rw is at kept in
      ap (risen first rises) (front_whole (risen_floors rises floors) after more front parts.3 undoubled) ∙ sym is

module _ (wish : Wish) (layout : Layout) (mesh : IsSomeLayout layout) (settings : Settings) where
  -- A layout has one network.
  pub one_net : (floors : Lengths) (net other : Network)
      → IsNetOf (gluing_of layout) (old_lengths layout) (wish layout) settings floors net
      → IsNetOf (gluing_of layout) (old_lengths layout) (wish layout) settings floors other → net ≡ other
  one_net floors = one_net_law (gluing_of layout) (old_lengths layout) (wish layout) settings floors
      (laid_of layout mesh)

  -- A certified list is not refused.
  not_wrong : (floors : Lengths) (cert : Lists) (why : Why) → IsCertified wish layout settings floors cert
      → AreCoarse layout cert.x → IsWrong wish layout settings floors cert why → ⊥
  not_wrong floors cert (why.Verdict verdict) is coarse wrong =
      let same = one_net floors wrong.net is.lengths.net wrong.of_layout is.lengths.of_layout in
      wrong.refuted (pos (deviation is.lengths.net (entries cert.x)))
      (wrong.told ∙ ap (λ (n : Network). cert_verdict n (certificate_of cert)) same
      ∙ accepted_yes is.lengths.net (certificate_of cert) is.accepted)
  not_wrong floors cert (why.TooFine faces) is coarse (certified, fine) = absurd (omega (arith, fine.0, fine.1, coarse))
  not_wrong floors cert _ is coarse wrong = wrong

  -- Certificates that are kept, whose used lengths give few faces and double no edge, are not wrong.
  none_wrong : (rising : Rising) (floors : Lengths) (n : ℕ) (certificates : Certificates) (why : Why)
      → AreKeptBy (IsCertified wish layout settings) layout floors rising certificates
      → AreCoarse layout (used certificates).x → IsUndoubled (gluing_of layout) (lengths_in (used certificates).x)
      → AreWrong wish layout settings floors n certificates why → ⊥
  none_wrong rising floors n (alone cert) why kept coarse whole (inl bad) = not_wrong floors cert why kept coarse bad
  none_wrong rising floors n (alone cert) (why.Doubled u v) kept coarse whole (inr lone) = whole u v lone.2.doubled
  none_wrong rising floors n (alone cert) _ kept coarse whole (inr lone) = lone
  none_wrong rising floors n (raised first cert) why kept coarse whole wrong =
      search (rules, not_wrong floors first why, not_wrong (λ arc. 3) cert why)
  none_wrong rising floors n (risen first rises after) why kept coarse whole wrong = search (
    rules,
    not_wrong floors first why,
    none_wrong rising (risen_floors rises floors) (n + 1) after why kept.3 coarse whole,
  )

-- A task that is shown has a network that is not too tangled.
pub shown_untangled : (task : Task) (soup : FaceSet) (text : Bytes) (layout : Layout) → IsSolid soup
    → IsFullCut soup.faces task.marks → IsCutLayout soup.faces task.marks layout → IsShown task soup text → (count : ℕ)
    → IsTangledAt task.wish layout task.settings count → ⊥
shown_untangled task soup text layout solid full laid shown count tangled =
    let floors = given_floors task.settings in
    let is = (elim shown.finished.certificates as (λ kept. AreKept task.wish layout task.settings task.rising kept
    → IsCertified task.wish layout task.settings floors (first_of kept)) [ alone cert ↦ λ is. is | _ ↦ λ is. is.1.fit ])
    (subst (λ (p : Layout). AreKept task.wish p task.settings task.rising shown.finished.certificates)
    (one_layout_law soup.faces task.marks solid.mesh.manifold full shown.finished.layout layout shown.finished.cut laid)
    shown.certified) in
    let same = one_net task.wish layout (cut_layout soup task.marks layout solid full laid) task.settings floors
    tangled.net is.lengths.net tangled.is is.lengths.of_layout in
    absurd (omega (arith, tangled.high, tangled.told, ap tangle_number same, is.lengths.untangled))

-- ---- A text that is shown to finish a task.

module _ (bytes : Bytes) (line : ℕ) {task : Task} {cut : CutSoup} {frame : Frame} (able : IsLaidOut task cut frame)
    (shown : IsShown task cut.soup (tail_of line bytes)) where
  -- Its layout is that of a mesh, and its text tells its certificates alone.
  some : IsSomeLayout shown.finished.layout
  some = cut_layout cut.soup task.marks shown.finished.layout able.solid able.full shown.finished.cut

  told_alone : (other : Certificates) → TellCerts task.rising (drop (line + 1) (lines_of bytes)) other
      ↔ (other ≡ shown.finished.certificates)
  told_alone other =
      let new = lengths_in (used shown.finished.certificates).x in
      subst (λ (behind : Lines). TellCerts task.rising behind other ↔ (other ≡ shown.finished.certificates))
      (ap (λ (text : Bytes). drop 1 (lines_of text)) (sym shown.finished.written) ∙ tail_behind line bytes)
      (task_told task cut.soup shown.finished.layout shown.finished.certificates able.range.floor.low able.solid some
      shown.finished.lengths shown.finished.coarse able.inside
      (subst IsSilent (sym (able.between shown.finished.layout new))
      (elim (marks_of frame) as (λ marks. IsSilent (kept_text marks shown.finished.layout new))
      [ None ↦ none_silent | Some marks ↦ marked_silent marks shown.finished.layout new ])) other)

  -- The certificates that are compared with are those that were kept, and their text is the one that is given.
  other_fine : (told : Certificates) (why : Why) → told ≡ shown.finished.certificates
      → TellsOtherText (judged_by bytes line (record cut { layout = shown.finished.layout }) task) told why → ⊥
  other_fine told why are other = search (rules, front_whole)

  -- A text whose certificates or whose bytes are refused finishes no task.
  pub text_refuted : (why : Why) → IsWrongText (judged_by bytes line cut task) why → ⊥
  text_refuted why refused =
      let wrong = subst (λ (p : Layout). IsWrongText (judged_by bytes line (record cut { layout = p }) task) why)
      (sym (one_layout_law cut.soup.faces task.marks able.solid.mesh.manifold able.full shown.finished.layout cut.layout
      shown.finished.cut able.laid)) refused in
      let same = (told_alone wrong.told).0 wrong.tells in
      elim wrong.wrong [
        | inl certs ↦ none_wrong task.wish shown.finished.layout some task.settings task.rising
            (given_floors task.settings) 1 shown.finished.certificates why shown.certified shown.finished.coarse
            shown.finished.undoubled (rw same at certs)
        | inr other ↦ other_fine wrong.told why same other
      ]

  -- Nor does one with a bad line behind the head line.
  pub line_refuted : (bad : ℕ) → HasBadLine task.rising (line + 2) (drop (line + 1) (lines_of bytes)) bad → ⊥
  line_refuted bad has =
      let how = (told_alone shown.finished.certificates).1 refl in
      let said = said_at task.rising (drop (line + 1) (lines_of bytes)) how.said how.texts how.allowed has.k
      has.bad.there has.bad.marked in
      has.bad.bad said.0 said.1

-- ---- What is told of a text.

-- A network that is not too tangled is the only one.
pub untangled : (wish : Wish) (layout : Layout) (settings : Settings) (net : Network)
    → IsNetFor wish layout settings net → (count : ℕ) → IsTangledAt wish layout settings count → ⊥
untangled wish layout settings net for count tangled =
    let same = one_net wish layout for.mesh settings _ tangled.net net tangled.is for.is in
    absurd (omega (arith, tangled.high, tangled.told, ap tangle_number same, for.untangled))

-- New faces that keep the shape of each mesh with a layout keep that of this one.
pub shape_of : (soup : FaceSet) (marks : List Bool) (layout : Layout) (new : Lengths) → IsSolid soup
    → IsFullCut soup.faces marks → IsCutLayout soup.faces marks layout → KeepsShapes layout new
    → KeepsShape soup.faces (new_faces (gluing_of layout) new) (gluing_of layout).nodes (vertex_at layout)
shape_of soup marks layout new solid full laid shapes = search (rules, quads_of)

-- What is never wrong with one certificate is not wrong with those of a text.
module _ (wish : Wish) (layout : Layout) (settings : Settings) (why : Why)
    (fine : (floors : Lengths) (cert : Lists) → ¬ IsWrong wish layout settings floors cert why)
    (whole : (floors : Lengths) (cert : Lists) → ¬ IsLoneDoubled wish layout settings floors cert why)
    (needed : (first : Lists) (rises : List Rise) (n : ℕ) → ¬ AreUnneeded layout first rises n why) where
  unsaid : (floors : Lengths) (n : ℕ) (told : Certificates) → ¬ AreWrong wish layout settings floors n told why
  unsaid floors n (alone cert) wrong = search (rules, fine, whole)
  unsaid floors n (raised first cert) wrong = search (rules, fine)
  unsaid floors n (risen first rises after) wrong =
      search (rules, fine, needed, unsaid (risen_floors rises floors) (n + 1) after)

-- The network is that of the terms of the frame.
pub net_is : {task : Task} {ready : Ready} → IsReady task ready
    → IsNetFor task.wish ready.cut.layout ready.frame.terms.settings (network ready.net)
net_is is = rw is.laid_out.terms is.net

module _ (bytes : Bytes) (line : ℕ) {task : Task} {ready : Ready} (is : IsReady task ready) where
  abbrev judged : Judged
  judged = judged_by bytes line ready.cut task

  -- A line behind the head line is bad.
  pub tells_nothing : (fail : CheckFail) → TellsNothing ready.frame.terms.rising bytes line fail
      → IsTextFail judged fail
  tells_nothing (NotAccepted (why.CertLine bad)) has =
      let moved = rw is.laid_out.terms at has in
      (moved, λ shown. line_refuted bytes line is.laid_out shown bad moved)
  tells_nothing _ has = search has

  -- What is wrong with a text shows that it finishes no task.
  both : (why : Why) → IsWrongText judged why → IsWrongText judged why
      × (¬ IsShown task ready.cut.soup (text_in judged))
  both why wrong = (wrong, λ shown. text_refuted bytes line is.laid_out shown why wrong)

  module _ {told : Certificates} (reads : TellCerts ready.frame.terms.rising (drop (line + 1) (lines_of bytes)) told)
    where
      tells : TellCerts task.rising (behind_in judged) told
      tells = subst (λ (t : Terms). TellCerts t.rising (behind_in judged) told) is.laid_out.terms reads

      abbrev AreBad : (settings : Settings) (why : Why) → Type 0
      AreBad settings why = AreWrong task.wish ready.cut.layout settings (given_floors settings) 1 told why

      bad_by : (why : Why) → AreBad task.settings why → IsTextFail judged (NotAccepted why)
      bad_by why.NoHead wrong = search (rules, unsaid)
      bad_by why.Head wrong = search (rules, unsaid)
      bad_by (why.CertLine bad) wrong = search (rules, unsaid)
      bad_by why wrong = both why (record { told = told; tells = tells; wrong = inl wrong })

      -- The certificates are not used.
      pub unused : (fail : CheckFail) → IsUnused task.wish ready.cut.layout ready.frame.terms.settings told fail
          → IsTextFail judged fail
      unused (NotAccepted why) by = bad_by why (subst (λ (t : Terms). AreBad t.settings why) is.laid_out.terms by)
      unused _ by = search by

      module _ {checked : Checked} (right : IsChecked task.wish ready.cut.layout (network ready.net) ready.frame.terms
          told checked) (between : Vec ℕ Global) (lines : between.items ≡ kept_text (marks_of ready.frame)
          ready.cut.layout (lengths_in (used (certificates_of checked.remesh.certs)).x)) where
        abbrev certificates : Certificates
        certificates = certificates_of checked.remesh.certs

        abbrev pub framed : Framed
        framed = record {
          head = ready.frame.head;
          between = between;
          remesh = checked.remesh;
          shares = ready.frame.shares;
        }

        terms_are : checked.remesh.terms ≡ record { settings = task.settings; rising = task.rising }
        terms_are = right.found ∙ is.laid_out.terms

        kept : IsKept task.wish ready.cut.layout task.settings task.rising certificates checked.remesh.numbering
        kept = rw terms_are at right.kept

        -- What is kept is in the frame of the task.
        text : framed_text framed ready.cut.soup ready.cut.layout ≡ finished_text task ready.cut.soup ready.cut.layout
            certificates
        text = text_is task framed ready.cut.soup ready.cut.layout (record {
          cut = is.laid_out.laid;
          settings = ap (λ (t : Terms). t.settings) terms_are;
          rising = ap (λ (t : Terms). t.rising) terms_are;
          kept = kept;
          head = is.laid_out.head;
          between = lines ∙ sym (is.laid_out.between ready.cut.layout (lengths_in (used certificates).x));
          shares = sym is.laid_out.shares;
        })

        -- The text is another one.
        pub other : (fail : CheckFail) → IsDifference (text_in judged)
            (framed_text framed ready.cut.soup ready.cut.layout) fail → IsTextFail judged fail
        other (NotAccepted (why.Byte at)) differ = both (why.Byte at) (record {
          told = told;
          tells = tells;
          wrong = inr (record {
            certificates = certificates;
            front = right.front;
            kept = kept.kept;
            coarse = kept.coarse;
            undoubled = kept.undoubled;
            differ = subst (λ (t : Bytes). DifferFrom (text_in judged) t at) text differ;
          });
        })
        other _ differ = search differ

        -- It is that of the task.
        pub finishes : (new : Regrid) → new ≡ record {
          soup = ready.cut.soup;
          layout = ready.cut.layout;
          lengths = checked.remesh.numbering.lengths.items;
          shares = ready.frame.shares;
        } → text_in judged ≡ framed_text framed ready.cut.soup ready.cut.layout
            → Finishes task ready (text_in judged) (record { new = new; deviation = checked.deviation })
        finishes new are written = record {
          shown = record {
            finished = record {
              layout = ready.cut.layout;
              cut = is.laid_out.laid;
              certificates = certificates;
              lengths = least_of task.wish ready.cut.layout task.settings task.rising certificates kept.kept;
              coarse = kept.coarse;
              undoubled = kept.undoubled;
              written = written ∙ text;
              shape = shape_of ready.cut.soup task.marks ready.cut.layout (lengths_in (used certificates).x)
                  is.laid_out.solid is.laid_out.full is.laid_out.laid kept.shape;
            };
            certified = kept.kept;
          };
          layout_is = refl;
          new = rw (← kept.lengths, is.laid_out.shares) are;
          deviates = right.deviates;
        }
