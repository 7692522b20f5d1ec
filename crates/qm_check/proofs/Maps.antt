-- The map of bytes that have one, and what is said of those that have none.
use Rattle.std.proofs.Common.{rules, Option, ◌∙◌, sym, inr, take, None, arith, ◌≡◌, ℕ, ap, subst, ◌↔◌, ◌≤◌, Some}
use Rattle.def_run.specs.Map.{IsHeadedBy, IsMapOf, HasOtherText, asks_of, HasMap, IsNotRefined, IsUnfinished, IsUnlike}
use Rattle.def_run.specs.{Map.WritesNew, Check.head_of, declared.command.Command.Command, Judging.IsReason}
use Rattle.def_run.specs.{Remesh.IsTracedLayout, Remesh.WritesFinished, Mesh.IsMeshText}
use Rattle.def_run.specs.{declared.check_fail.CheckFail.CheckFail, MapFails.IsMapFail, declared.answer.Why.Why}
use Rattle.def_run.specs.declared.check_fail.CheckFail.TheVariants.{NotAccepted, NotManifold, Tangled, Far, Marks, Old}
use Rattle.def_run.specs.declared.command.Command.TheVariants.{Refine}
use Rattle.def_run.specs.MarkLines.{IsMarkLine, IsLastMark, front_of, HasNoMark, begins_mark}
use Rattle.qm_check.specs.Making.{IsReadyFor, IsFound, IsUnmade, HasMapOf, IsGivenTo}
use Rattle.qm_check.specs.{Multiples.HasNoPoints, Multiples.IsRefinedBy, Ready.IsOld, Ready.IsNoOld}
use Rattle.qm_check.specs.{declared.judging.Finished.Finished, declared.ready.Ready.Ready, Judged.judged_by}
use Rattle.def_remesh.specs.{CutSoups.Regrid, CutSoups.CutSoup, Certified.IsShown, NewPoints.lengths_in}
use Rattle.def_remesh.specs.{NewPoints.multiple_of, Refined.refined_text, Refined.refined_faces}
use Rattle.qm_check.proofs.{Points.one_ok, Verdicts.shape_of, Verdicts.untangled, Tasks.shown_by}
use Rattle.{std.proofs.lemmas.Option.none-some, embedding_laws.proofs.OneLayout.one_layout_law}
use Rattle.{def_run.specs.Refine.WritesRefined, def_io.specs.Bytes.Bytes, def_io.specs.Lines.lines_of}
use Rattle.{def_io.specs.Lines.tail_of, qm_check.specs.Judged.IsTextFail, qm_check.specs.Checked.IsDifference}
use Rattle.{def_remesh.specs.declared.limits.TheConstants.MAX_NEW_FACES, def_certtext.specs.CertLines.used}
use Rattle.{site_laws.proofs.Laws.graph_law, def_cut.specs.Traced.traced_marks, def_map.specs.MapText.map_text}
use Rattle.{def_text.specs.FaceSet.FaceSet, def_flow.specs.Network.network, def_layout.specs.Arcs.long_at}
use Rattle.{def_mesh.specs.Manifold.IsManifold, remesh_laws.proofs.Asides.one_last}
use Rattle.def_run.specs.declared.answer.Why.TheVariants as why

-- Without such a line there is no map.
pub unmarked_bytes : (bytes : Bytes) → HasNoMark (lines_of bytes) → IsMapFail bytes (NotAccepted why.NoHead)
unmarked_bytes bytes none = search rules

-- Where a new mesh is written there is an old one.
new_mesh : (command : Command) (front text : Bytes) → WritesNew command front text → (soup : FaceSet)
    × IsMeshText front soup
new_mesh command front text wrote = search rules

module _ (bytes : Bytes) (line : ℕ) (last : IsLastMark (lines_of bytes) line) where
  line_is : (has : HasMap bytes) → has.1.line ≡ line
  line_is has = one_last begins_mark (lines_of bytes) has.1.line line has.1.divided last

  -- The mesh in front of a map.
  front_mesh : (has : HasMap bytes) → (soup : FaceSet) × IsMeshText (front_of line bytes) soup
  front_mesh has = search (rules, new_mesh)

  -- The bytes in front have no mesh.
  pub no_front : (fail : CheckFail) → IsNoOld (front_of line bytes) fail → IsMapFail bytes fail
  no_front (Old fail) (other, says) = search (rules, front_mesh)
  no_front (NotManifold place soup) (says, fault, refuted) = (
    record { line = line; divided = last; said = says; fault = fault; refuted = refuted },
    λ (has : HasMap bytes).
        let (other, mesh) = front_mesh has in
        refuted (subst (λ (s : FaceSet). IsManifold s.faces) (one_ok mesh.said says) mesh.manifold),
  )
  no_front _ none = search none

  module _ {old : FaceSet} (is : IsOld (front_of line bytes) old) {head : Bytes} (at : head ≡ head_of bytes line)
      {read : Option Command} (reads : (command : Command) → (read ≡ Some command) ↔ IsMarkLine head command) where
    reads_here : (command : Command) → IsMarkLine (head_of bytes line) command → read ≡ Some command
    reads_here command mark = (reads command).1 (rw at mark)

    -- The line is that of no command.
    pub no_command : read ≡ None → IsMapFail bytes (NotAccepted why.Head)
    no_command none =
        let other : (command : Command) → ¬ IsMarkLine (head_of bytes line) command =
        λ command mark. none-some command (sym none ∙ reads_here command mark) in (
          record { line = line; soup = old; front = record { divided = last; mesh = is.mesh }; none = other },
          λ (has : HasMap bytes). other has.1.command (rw (line_is has) at has.1.mark),
        )

-- The text of a finished task is that of its command, and has its map.
written_by : (command : Command) (front text : Bytes) → WritesFinished (asks_of command) front text
    → WritesNew command front text
written_by (Refine by) front text wrote = absurd wrote.asked
written_by _ front text wrote = wrote

map_is : (command : Command) (front text : Bytes) (wrote : WritesFinished (asks_of command) front text)
    → IsMapOf command front text (written_by command front text wrote) (map_text wrote.soup wrote.shown.finished.layout
    wrote.task.shares (lengths_in (used wrote.shown.finished.certificates).x))
unfolding written_by
map_is (Refine by) front text wrote = absurd wrote.asked
map_is _ front text wrote = search rules

-- What is not as its task is not what its command writes.
unlike_of : (command : Command) (bytes : Bytes) (line : ℕ) (why : Why) → IsUnfinished (asks_of command) bytes line why
    → IsUnlike command bytes line why
unlike_of command bytes line why none = search rules

module _ {bytes : Bytes} {line : ℕ} {old : FaceSet} {command : Command} (given : IsGivenTo bytes line old command) where
  abbrev front : Bytes
  front = front_of line bytes

  abbrev text : Bytes
  text = tail_of line bytes

  headed : IsHeadedBy bytes line command
  headed = record { soup = old; front = record { divided = given.last; mesh = given.read.mesh }; mark = given.is }

  -- Bytes that have a map are written by this command.
  given_writes : HasMap bytes → WritesNew command front text
  given_writes has =
      let same = line_is bytes line given.last has in
      rw (← (given.alone has.1.command (rw same at has.1.mark)), ← same) has.1.written

  -- Nothing is made ready for the command.
  pub unmade_fails : (fail : CheckFail) → IsUnmade command front fail → IsMapFail bytes fail
  unmade_fails (Tangled count) (why, never) = search (rules, inr, headed)
  unmade_fails (Far sum) (why, never) = search (rules, inr, headed)
  unmade_fails (Marks fail) (said, other, never) = search rules
  unmade_fails _ none = search none

  module _ {ready : Ready} (for : IsReadyFor command front ready) (same : ready.cut.soup ≡ old) where
    pub ready_mesh : IsMeshText front ready.cut.soup
    ready_mesh = rw same given.read.mesh

    -- The text is not that of the task.
    other : (why : Why) → IsReason (judged_by bytes line ready.cut for.task) why
        × (¬ IsShown for.task ready.cut.soup text) → HasOtherText bytes why × (¬ HasMap bytes)
    other why (reason, none) = (
      record {
        line = line;
        command = command;
        headed = headed;
        unlike = unlike_of command bytes line why (record {
          task = for.task;
          layout = ready.cut.layout;
          mesh = record {
            soup = ready.cut.soup;
            mesh = ready_mesh;
            asked = for.only.asked;
            cut = for.holds.laid_out.laid;
          };
          untangled = untangled for.task.wish ready.cut.layout for.task.settings (network ready.net) for.holds.net;
          reason = reason;
        });
      },
      λ (has : HasMap bytes). none (shown_by command front text ready.cut.soup for.task ready_mesh for.only
          (given_writes has)),
    )

    pub text_fails : (fail : CheckFail) → IsTextFail (judged_by bytes line ready.cut for.task) fail
        → IsMapFail bytes fail
    text_fails fail both = search (rules, other)

  -- A text that the command wrote has its map.
  pub mapped : {finished : Finished} → IsFound command front text finished → HasMapOf bytes finished.new
  mapped by = subst (HasMapOf bytes) (sym by.new) (record {
    line = line;
    divided = given.last;
    command = command;
    mark = given.is;
    written = written_by command front text by.written;
    said = map_is command front text by.written;
  })

-- ---- A refined mesh.

module _ {bytes : Bytes} {line : ℕ} {by : ℕ} {cut : CutSoup} (given : IsGivenTo bytes line cut.soup (Refine by))
    (laid : IsTracedLayout cut.soup.faces cut.layout) where
  -- The text is another one for this reason, where what is written over this layout is not.
  refined_other : (why : Why) → IsNotRefined by cut.soup cut.layout (tail_of line bytes) why
      → (refined_faces by cut.layout ≤ MAX_NEW_FACES → tail_of line bytes ≡ refined_text by cut.soup cut.layout → ⊥)
      → HasOtherText bytes why × (¬ HasMap bytes)
  refined_other why reason none = (
    record {
      line = line;
      command = Refine by;
      headed = headed given;
      unlike = record {
        layout = cut.layout;
        mesh = record { soup = cut.soup; mesh = given.read.mesh; cut = laid };
        reason = reason;
      };
    },
    λ (has : HasMap bytes).
        let wrote : WritesRefined by (front_of line bytes) (tail_of line bytes) = given_writes given has in
        let soups = one_ok wrote.mesh.said given.read.mesh.said in
        let layouts = one_layout_law cut.soup.faces (traced_marks cut.soup.faces) given.read.mesh.manifold
        (graph_law cut.soup.faces given.read.mesh.manifold).1 wrote.refined.layout cut.layout
        (rw soups at wrote.refined.cut) laid in
        none (rw layouts at wrote.refined.fits) (wrote.refined.written ∙ (λ i. refined_text by (soups i) (layouts i))),
  )

  -- There are too many faces.
  pub no_points : (fail : CheckFail) → HasNoPoints by cut.layout fail → IsMapFail bytes fail
  no_points (NotAccepted (why.TooFine faces)) fine =
      refined_other (why.TooFine faces) fine (λ few written. absurd (omega (arith, few, fine.0, fine.1)))
  no_points _ none = search none

  module _ {new : Regrid} (are : IsRefinedBy by cut new) where
    -- The text is another one.
    pub other_refined : (fail : CheckFail) → IsDifference (tail_of line bytes) (refined_text by new.soup new.layout)
        fail → IsMapFail bytes fail
    other_refined (NotAccepted (why.Byte at)) differ =
        let moved = rw (are.soup, are.layout) at differ in
        refined_other (why.Byte at) (are.few, moved) (λ few written. moved.there (ap (take at) written))
    other_refined _ differ = search differ

    -- It is that of the refined mesh.
    pub refined_mapped : tail_of line bytes ≡ refined_text by new.soup new.layout → HasMapOf bytes new
    refined_mapped written = record {
      line = line;
      divided = given.last;
      command = Refine by;
      mark = given.is;
      written = record {
        soup = cut.soup;
        mesh = given.read.mesh;
        refined = record {
          layout = cut.layout;
          cut = laid;
          fits = are.few;
          written = written ∙ (λ i. refined_text by (are.soup i) (are.layout i));
          shape = shape_of cut.soup (traced_marks cut.soup.faces) cut.layout (multiple_of by (long_at cut.layout.arcs))
              given.read.solid (graph_law cut.soup.faces given.read.mesh.manifold).1 laid are.shape;
        };
      };
      said = λ i. map_text (are.soup i) (are.layout i) (are.shares i) (are.lengths i);
    }
