-- The layouts of bytes that are read.
use Rattle.std.proofs.Common.{rules, ◌≡◌, sym, ◌∙◌, refl, Ok, Some, None, ◌≤◌}
use Rattle.def_run.specs.declared.command.Command.TheVariants.{Coarse, Crease, Fit, Remesh, Size}
use Rattle.def_run.specs.{Map.asks_of, Mesh.IsMeshText, Remesh.WritesFinished, declared.command.Command.Command}
use Rattle.def_patches.specs.declared.Patches.TheVariants.{Merged, Traced}
use Rattle.def_readlaws.specs.ReadLayouts.{OneChosenLaw, OneTracedLaw, TaskLayoutLaw}
use Rattle.existence_laws.proofs.{Layouts.layout_law, Layouts.traced_layout_law}
use Rattle.read_laws.proofs.{MarksRead.asides_in_law, MarksRead.marks_in_law, Soups.mesh_text_law}
use Rattle.{def_layout.specs.Layouts.gluing_of, def_layout.specs.Lengths.AreLengths}
use Rattle.{def_remesh.specs.NewPoints.lengths_in, def_remesh.specs.Tasks.Task, patch_laws.proofs.Chosen.chosen_cut_law}
use Rattle.{patch_laws.proofs.Chosen.one_cut_law, def_cut.specs.FullCut.IsFullCut, def_feature.specs.Marked.marked_cut}
use Rattle.{def_io.specs.Bytes.Bytes, def_certtext.specs.CertLines.used, def_layoutnet.specs.MeshLayouts.IsSomeLayout}
use Rattle.{remesh_laws.proofs.ReadAgain.used_lengths, def_text.specs.FaceSet.FaceSet, site_laws.proofs.Laws.graph_law}

-- Bytes have at most one soup.
one_soup : (bytes : Bytes) (soup other : FaceSet) → IsMeshText bytes soup → IsMeshText bytes other → other ≡ soup
one_soup bytes soup other is also = let same : Ok other ≡ Ok soup = sym also.said ∙ is.said in cc same

pub one_traced_law : OneTracedLaw
one_traced_law bytes has =
    let one = traced_layout_law has.soup.faces (mesh_text_law bytes has.soup has.mesh).1 in
    record {
      layout = one.layout;
      traced = record { soup = has.soup; mesh = has.mesh; cut = one.laid };
      full = (graph_law has.soup.faces has.mesh.manifold).1;
      alone = λ other also. one.alone other (rw (← one_soup bytes has.soup also.soup has.mesh also.mesh) also.cut);
    }

pub one_chosen_law : OneChosenLaw
one_chosen_law fit bytes soup asides is said =
    let mesh = (mesh_text_law bytes soup is).1 in
    let marks = asides_in_law fit bytes soup asides is said in
    let cut = one_cut_law soup.faces asides.kept fit.patches mesh.manifold marks in
    let full = chosen_cut_law soup.faces asides.kept fit.patches cut.cut mesh.manifold marks cut.chosen in
    let one = layout_law soup.faces cut.cut mesh full in
    search rules

-- The cut that a task asks for is full.
full_task : (command : Command) (bytes : Bytes) (soup : FaceSet) (task : Task) → IsMeshText bytes soup
    → asks_of command bytes soup task → IsFullCut soup.faces task.marks
full_task (Remesh settings auto) bytes soup task is asked = rw asked (graph_law soup.faces is.manifold).1
full_task (Crease settings) bytes soup task is asked = rw asked.2 (chosen_cut_law soup.faces (Some asked.0) Traced
    (marked_cut soup.faces asked.0) is.manifold (marks_in_law bytes soup asked.0 is asked.1) refl)
full_task (Size edge floor) bytes soup task is asked = rw asked.0 (graph_law soup.faces is.manifold).1
full_task (Coarse settings) bytes soup task is asked = rw asked.2
    (chosen_cut_law soup.faces None Merged asked.0 is.manifold tt asked.1)
full_task (Fit fit) bytes soup task is ((asides, cut, said, chosen, same), near) = rw same (chosen_cut_law soup.faces
    asides.kept fit.patches cut is.manifold (asides_in_law fit bytes soup asides is said) chosen)
full_task _ bytes soup task is asked = absurd asked

pub task_layout_law : TaskLayoutLaw
task_layout_law command bytes soup task is asked =
    let full = full_task command bytes soup task is asked in
    (full, layout_law soup.faces task.marks (mesh_text_law bytes soup is).1 full)

-- The layout of a finished task is that of a mesh, and the lengths that it used are lengths of it.
module _ (command : Command) (bytes text : Bytes) (wrote : WritesFinished (asks_of command) bytes text) where
  pub finished_layout : IsSomeLayout wrote.shown.finished.layout
  finished_layout = let mesh = mesh_text_law bytes wrote.soup wrote.mesh in search (rules, full_task)

  pub finished_lengths : 1 ≤ wrote.task.settings.floor → AreLengths (gluing_of wrote.shown.finished.layout)
      (lengths_in (used wrote.shown.finished.certificates).x)
  finished_lengths some = search (rules, used_lengths)
