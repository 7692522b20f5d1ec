-- The one task that each command asks of a soup, and why it is not made ready.
use Rattle.std.proofs.Common.{rules, ◌^◌, List, ◌∙◌, inr, ap, subst, Bool, Ok, ◌≡◌, arith, sym, length, ◌<◌, refl}
use Rattle.{def_cut.specs.FullCut.IsFullCut, def_fit.specs.FitTasks.Asides, def_fit.specs.FitTasks.asides_in}
use Rattle.{def_text.specs.FaceSet.FaceSet, def_io.specs.Bytes.Bytes, embedding_laws.proofs.OneLayout.one_layout_law}
use Rattle.{def_fit.specs.Aims.AreAimedNear, def_layout.specs.FaceLayouts.IsCutLayout, def_layout.specs.Layouts.Layout}
use Rattle.{def_patches.specs.Chosen.IsChosenCut, def_patches.specs.Chosen.AreKeptMarks, def_flow.specs.Network.network}
use Rattle.patch_laws.proofs.Chosen.{one_cut_law, chosen_cut_law}
use Rattle.def_run.specs.declared.check_fail.CheckFail.TheVariants.{Far, Tangled}
use Rattle.def_run.specs.{Remesh.Asks, Map.WritesNew, Map.asks_of, declared.check_fail.CheckFail.CheckFail}
use Rattle.def_run.specs.{Mesh.IsMeshText, declared.command.Command.Command, Remesh.WritesFinished, Remesh.HasTask}
use Rattle.def_remesh.specs.{CutSoups.Regrid, Keeping.IsNetFor, Tasks.Task, Certified.IsShown, CutSoups.CutSoup}
use Rattle.qm_check.proofs.{Points.IsPoint, Points.one_ok, Verdicts.shown_untangled}
use Rattle.qm_check.specs.{Ready.IsReady, Least.least_task, Ready.IsOld, Judged.Finishes, declared.ready.Ready.Ready}
use Rattle.qm_check.specs.{declared.judging.Finished.Finished, Making.IsUnmade, Making.IsFound, Least.AsksToFind}
use Rattle.qm_check.specs.{Least.HasNoNet, Making.IsOnlyTask, Ready.IsAsideFail, declared.least.Least.Least}
use Rattle.def_run.specs.declared.command.Command.TheVariants as commands

-- A text that is written for a mesh shows the only task that is asked.
shown_only : (asks : Asks) (front text : Bytes) (soup : FaceSet) (task : Task) → IsMeshText front soup
    → ((other : Task) → asks front soup other → other ≡ task) → WritesFinished asks front text → IsShown task soup text
shown_only asks front text soup task mesh alone wrote =
    let same = one_ok wrote.mesh.said mesh.said in
    rw (← (alone wrote.task (rw same at wrote.asked)), ← same) wrote.shown

pub shown_by : (command : Command) (front text : Bytes) (soup : FaceSet) (task : Task) → IsMeshText front soup
    → IsOnlyTask command front soup task → WritesNew command front text → IsShown task soup text
shown_by (commands.Refine by) front text soup task mesh only wrote = absurd only.asked
shown_by command front text soup task mesh only wrote = search (rules, shown_only)

-- What is written for a task that a command asks is found.
abbrev pub found : {command : Command} {front text : Bytes} {ready : Ready} {finished : Finished} (task : Task)
    → IsMeshText front ready.cut.soup → asks_of command front ready.cut.soup task → IsReady task ready
    → Finishes task ready text finished → IsFound command front text finished
found {ready = ready} task mesh asked is by = record {
  written = record { soup = ready.cut.soup; mesh = mesh; task = task; asked = asked; shown = by.shown };
  new = by.new;
  net = network ready.net;
  of_layout = subst (λ (p : Layout). IsNetFor task.wish p task.settings (network ready.net)) (sym by.layout_is) is.net;
  deviates = by.deviates;
}

-- The arcs of what is found are those of a network.
pub few_found : {command : Command} {front text : Bytes} {finished : Finished}
    → IsFound command front text finished → length finished.new.layout.arcs < 2 ^ 32
few_found is =
    omega (arith, ap (λ (new : Regrid). length new.layout.arcs) is.new, is.of_layout.is.long, is.of_layout.bounds.few)

-- The mesh of a text with the layout of the cut that is chosen, beside what its lines say.
pub record IsCutBy (least : Least) (text : Bytes) (cut : CutSoup) (asides : Asides) : Type 0 where
  pub said : asides_in least.fit text cut.soup ≡ Ok asides
  pub inner : AreKeptMarks cut.soup.faces asides.kept
  pub edges : List Bool
  pub chosen : IsChosenCut cut.soup.faces asides.kept least.fit.patches edges
  pub laid : IsCutLayout cut.soup.faces edges cut.layout

module _ {command : Command} {line text : Bytes} {least : Least} (point : IsPoint command line least) where
  -- A line beside the mesh is refused.
  pub aside_unmade : {soup : FaceSet} → IsMeshText text soup → (fail : CheckFail) → IsAsideFail least.fit text soup fail
      → IsUnmade command text fail
  aside_unmade h1 fail h2 = search rules

  module _ {cut : CutSoup} {asides : Asides} (old : IsOld text cut.soup) (by : IsCutBy least text cut asides) where
    abbrev pub task : Task
    task = least_task least line cut.soup asides by.edges

    pub full : IsFullCut cut.soup.faces by.edges
    full = chosen_cut_law cut.soup.faces asides.kept least.fit.patches by.edges old.mesh.manifold by.inner by.chosen

    asked : AsksToFind least line text cut.soup task
    asked = (asides, by.edges, by.said, by.chosen, refl)

    -- There is no other.
    alone : (other : Task) → asks_of command text cut.soup other → other ≡ task
    alone other also =
        let (beside, edges, said, chosen, is) = ((point.asks text cut.soup other).1 also).0 in
        let same : beside ≡ asides = one_ok said by.said in
        let one = one_cut_law cut.soup.faces asides.kept least.fit.patches old.mesh.manifold by.inner in
        let cuts = one.only edges (rw same at chosen) ∙ sym (one.only by.edges by.chosen) in
        is ∙ (λ i. least_task least line cut.soup (same i) (cuts i))

    -- Wishes that are not too great for a layout are so for the one layout of the cut.
    pub only_for : AreAimedNear least.fit.aim task.wish cut.layout → IsOnlyTask command text cut.soup task
    only_for near = record {
      asked = (point.asks text cut.soup task).0 (
        asked,
        λ layout laid. subst (AreAimedNear least.fit.aim task.wish)
            (one_layout_law cut.soup.faces by.edges old.mesh.manifold full cut.layout layout by.laid laid) near,
      );
      alone = alone;
    }

    has : HasTask (AsksToFind least line) text task cut.layout
    has = record { soup = cut.soup; mesh = old.mesh; asked = asked; cut = by.laid }

    -- There is no network.
    pub net_unmade : (fail : CheckFail) → HasNoNet least.fit.aim task.wish cut.layout task.settings fail
        → IsUnmade command text fail
    net_unmade (Tangled count) tangled = (
      point.tangled text count (inr (task, cut.layout, has, tangled)),
      λ written wrote. shown_untangled task cut.soup written cut.layout old.solid full by.laid
          (shown_only (asks_of command) text written cut.soup task old.mesh alone
          (point.writes text written wrote)) count tangled,
    )
    net_unmade (Far sum) (unbounded, far) = search (rules, has, alone)
    net_unmade _ none = search none
