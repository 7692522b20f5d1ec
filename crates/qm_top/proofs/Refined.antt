-- What `refine`, `blocks`, `layout` and `grids` keep.
use Rattle.std.proofs.Common.{rules, ◌≡◌, ℕ, ◌<◌, ◌≤◌, Bool, List, Option, None, Result, Ok, Err, sym, ap, ◌∙◌, subst}
use Rattle.std.proofs.Common.{refl, arith}
use Rattle.def_cuttext.specs.{LayoutText.layout_text, GridsText.chosen_text, declared.chosen.Chosen.Chosen}
use Rattle.def_layout.specs.{Arcs.long_at, Layouts.gluing_of, Layouts.vertex_at}
use Rattle.def_patches.specs.{Chosen.IsChosenLayout, declared.Keep.Keep, declared.Patches.Patches}
use Rattle.def_remesh.specs.{CutSoups.CutSoup, CutSoups.Regrid, NewPoints.lengths_in, NewPoints.multiple_of}
use Rattle.def_remesh.specs.{Placings.IsMeshLayout, Refined.refined_faces, Refined.refined_text, Stitched.KeepsShapes}
use Rattle.def_remesh.specs.{declared.kept.LayoutFail.LayoutFail, declared.limits.TheConstants.MAX_NEW_FACES}
use Rattle.def_run.specs.declared.command.Command.TheVariants.{Grids, LayOut, Refine}
use Rattle.def_run.specs.{Blocks.IsBlocked, Causes.Cause, Causes.Reads, Causes.Refuses, LayOut.HasChosenLayout}
use Rattle.def_run.specs.{Mesh.IsMeshText, Refine.RefusesToRefine, Remesh.IsTracedLayout, declared.answer.Answer.Answer}
use Rattle.def_run.specs.{declared.command.Command.Command, declared.command.TheConstants.MAX_MULTIPLE}
use Rattle.def_text.specs.{FaceSet.FaceSet, Input.ReadSoup, Input.ReadWhole, declared.limits.TheConstants.MAX_BYTES}
use Rattle.def_written.specs.{NewFaces.new_faces, Shape.KeepsShape}
use Rattle.qm_blocks.proofs.Mutual.{linked_points, lead_back}
use Rattle.qm_top.specs.Blocking.{links_in, told_text, AreBlocksBy, AreGridsBy, IsGridded}
use Rattle.qm_top.specs.{LayingOut.FailsNever, Refining.FailsBy, Refining.FailsToRefine, Refining.IsRefinedMesh}
use Rattle.qm_top.specs.{Refining.ShowsRefined, Refusals.answer_of_layout, Writing.IsOfLayout}
use Rattle.qm_top.proofs.Refusals.{layout_ends, IsWriter}
use Rattle.{std.specs.Prelude.IfOk, std.specs.Prelude.OnOk, def_fit.specs.FitTasks.kept_in, def_io.specs.Bytes.Bytes}
use Rattle.{def_io.specs.Moves.Change, def_mesh.specs.Manifold.IsManifold, embedding_laws.proofs.Bounds.laid_of}
use Rattle.{qm_blocktext.specs.declared.blocks.Blocks.Blocks, qm_refine.proofs.Multiplied.are_multiples}
use Rattle.{remesh_laws.proofs.ReadAgain.refined_read}
use Rattle.def_remesh.specs.declared.kept.LayoutFail.TheVariants as layouts
use Rattle.def_run.specs.declared.command.Command.TheVariants as commands

-- ---- The mesh of `refine`.

-- What is refined of a cut mesh is refined of the soup that it was made of.
pub all_refined : (by : ℕ) {soup : FaceSet} (cut : CutSoup) (result : Result Regrid LayoutFail) → cut.soup ≡ soup
    → IsMeshLayout cut.soup.faces cut.layout → IsTracedLayout cut.soup.faces cut.layout
    → IfOk result (λ new. (new.soup ≡ cut.soup) × (new.layout ≡ cut.layout) × (lengths_in new.lengths ≡ multiple_of by
    (long_at cut.layout.arcs)) × (new.shares ≡ None)) → OnOk result (refined_faces by cut.layout ≤ MAX_NEW_FACES) → OnOk
    result (KeepsShapes cut.layout (multiple_of by (long_at cut.layout.arcs))) → IfOk result (IsRefinedMesh by soup)
all_refined by cut (Ok new) is laid traced (same, on, lengths, even) fits shape = record {
  same = same ∙ is;
  laid = rw (← is, on) laid;
  cut = rw (← is, on) traced;
  lengths = rw on lengths;
  even = even;
  fits = rw on fits;
  shape = rw on shape;
}
all_refined by cut (Err fail) is laid traced made few shape = tt

-- What is refused of a cut mesh is refused of that soup.
pub refine_fails : (by : ℕ) {soup : FaceSet} (cut : CutSoup) (fail : LayoutFail) → cut.soup ≡ soup
    → IsTracedLayout cut.soup.faces cut.layout → FailsBy by cut.layout fail → FailsToRefine by soup fail
refine_fails by cut (layouts.TooFine faces kept) is traced why =
    (cut.layout, subst (λ (s : FaceSet). IsTracedLayout s.faces cut.layout) is traced, why)
refine_fails by cut layouts.Memory is traced why = tt
refine_fails by cut _ is traced why = absurd why

-- Its text is one of a refined mesh.
pub is_refined : {by : ℕ} {soup : FaceSet} {new : Regrid} → 1 ≤ by → by ≤ MAX_MULTIPLE → IsRefinedMesh by soup new
    → ShowsRefined by soup (refined_text by new.soup new.layout)
is_refined {by} {soup} {new} some few are = subst (λ (s : FaceSet). ShowsRefined by soup (refined_text by s new.layout))
    (sym are.same) (record {
      refined = record { layout = new.layout; cut = are.cut; fits = are.fits; written = refl; shape = shape are.laid };
      read = refined_read by soup new.layout are.laid.0 (omega (arith, some)) (omega (arith, few));
    })
  where
    shape : IsMeshLayout soup.faces new.layout
        → KeepsShape soup.faces (new_faces (gluing_of new.layout) (multiple_of by (long_at new.layout.arcs)))
        (gluing_of new.layout).nodes (vertex_at new.layout)
    shape (is, same) = search rules

-- ---- What `refine` and `blocks` keep once their mesh is read.

module _ (by : ℕ) {input : Change} (out : Change) {soup : FaceSet} (manifold : IsManifold soup.faces)
    (read : ReadSoup MAX_BYTES input.told input.told_now soup) (calm : input.faults_now ≡ input.faults) where
  -- A soup that is not refined is refused so by a command that refuses what `refine` refuses.
  fails_as : (command : Command) → Reads command input read.bytes
      → ((answer : Answer) → RefusesToRefine by read.bytes answer → Refuses command read.bytes answer)
      → (fail : LayoutFail) → FailsToRefine by soup fail → Cause command input out (answer_of_layout fail)
  fails_as command whole says (layouts.TooFine faces kept) (layout, cut, why) = search rules
  fails_as command whole says layouts.Memory why = tt
  fails_as command whole says _ none = absurd none

  pub refine_writer : IsWriter (Refine by) (ShowsRefined by soup) (IsOfLayout (FailsToRefine by soup)) input out
  refine_writer = record {
    bytes = read.bytes;
    whole = read.whole;
    calm = calm;
    writes = λ text shows.
        record { soup = soup; mesh = record { said = read.said; manifold = manifold }; refined = shows.refined };
    read = λ text shows. shows.read;
    ends = layout_ends {fails = FailsToRefine by soup} calm (fails_as (Refine by) read.whole (λ answer why. why));
  }

  pub blocks_writer : IsWriter (commands.Blocks by) (IsBlocked by soup) (IsOfLayout (FailsToRefine by soup)) input out
  blocks_writer = record {
    bytes = read.bytes;
    whole = read.whole;
    calm = calm;
    writes = λ text blocked.
        record { soup = soup; mesh = record { said = read.said; manifold = manifold }; blocked = blocked };
    read = λ text blocked. tt;
    ends = layout_ends {fails = FailsToRefine by soup} calm
        (fails_as (commands.Blocks by) read.whole (λ answer why. why));
  }

-- ---- The texts of `blocks` and `grids`.

-- The text of the blocks of a mesh with each edge divided in so many.
pub is_blocked : {by : ℕ} {soup : FaceSet} {blocks : Blocks} → 0 < by → AreBlocksBy by soup blocks
    → IsBlocked by soup (told_text blocks)
is_blocked {by} {blocks = blocks} some are = record {
  layout = blocks.points.layout;
  cut = are.points.cut;
  fits = are.points.fits;
  blocks = record {
    links = links_in blocks;
    linked = are.links;
    back = lead_back _ _ (laid_of blocks.points.layout are.points.laid.0) (links_in blocks) are.links;
    joined = linked_points _ _ (laid_of blocks.points.layout are.points.laid.0)
        (are_multiples blocks.points.layout are.points.laid.0 by some) (links_in blocks) are.links;
    written = λ k. chosen_text (are.told k) (are.parts k) (are.points.same k) blocks.points.layout
        (are.points.lengths k) (links_in blocks);
  };
}

-- The text of the grids of a cut mesh.
pub is_gridded : {chosen : Chosen} {by : ℕ} {cut : CutSoup} {blocks : Blocks} → 0 < by → IsMeshLayout cut.soup.faces
    cut.layout → AreGridsBy chosen by cut blocks → IsGridded chosen.keep chosen.patches by cut (told_text blocks)
is_gridded {by = by} {cut = cut} {blocks = blocks} some laid are = record {
  fits = are.fits;
  grids = record {
    links = links_in blocks;
    linked = are.links;
    back = lead_back _ _ (laid_of cut.layout laid.0) (links_in blocks) are.links;
    joined = linked_points _ _ (laid_of cut.layout laid.0) (are_multiples cut.layout laid.0 by some)
        (links_in blocks) are.links;
    written = λ k. chosen_text (are.told k) (are.parts k) (are.same k) (are.on k) (are.lengths k) (links_in blocks);
  };
}

-- ---- What `layout` and `grids` keep of bytes with a mesh and lines that are kept, once the mesh is cut.

module _ (keep : Keep) (patches : Patches) {bytes : Bytes} {read : FaceSet} {kept marks : Option (List Bool)}
    (cut : CutSoup) (mesh : IsMeshText bytes read) (said : kept_in keep bytes read ≡ Ok kept) (copied : marks ≡ kept)
    (same : cut.soup ≡ read) (chosen : IsChosenLayout cut.soup.faces marks patches cut.layout) {input : Change}
    (out : Change) (whole : ReadWhole MAX_BYTES input.told input.told_now bytes)
    (calm : input.faults_now ≡ input.faults) where
  abbrev has_layout : HasChosenLayout keep patches bytes cut.layout
  has_layout = record {
    has = record {
      soup = cut.soup;
      mesh = subst (IsMeshText bytes) (sym same) mesh;
      kept = marks;
      said = ap (kept_in keep bytes) same ∙ said ∙ ap (λ (o : Option (List Bool)). Ok o) (sym copied);
    };
    cut = chosen;
  }

  pub layout_writer : IsWriter (LayOut keep patches)
      (λ (text : Bytes). text ≡ layout_text keep patches cut.soup marks cut.layout) (IsOfLayout FailsNever) input out
  layout_writer = record {
    bytes = bytes;
    whole = whole;
    calm = calm;
    writes = λ text is. record { layout = cut.layout; laid_out = has_layout; said = is };
    read = λ text is. tt;
    ends = layout_ends {fails = FailsNever} calm (λ fail none. absurd none);
  }

  pub grids_writer : (by : ℕ) → IsWriter (Grids keep patches by) (IsGridded keep patches by cut)
      (IsOfLayout (FailsBy by cut.layout)) input out
  grids_writer by = record {
    bytes = bytes;
    whole = whole;
    calm = calm;
    writes = λ text is. record { layout = cut.layout; laid_out = has_layout; fits = is.fits; grids = is.grids };
    read = λ text is. tt;
    ends = layout_ends {fails = FailsBy by cut.layout} calm too_fine;
  }
    where
      too_fine : (fail : LayoutFail) → FailsBy by cut.layout fail
          → Cause (Grids keep patches by) input out (answer_of_layout fail)
      too_fine (layouts.TooFine faces kept) why =
          record { bytes = bytes; whole = whole; said = (cut.layout, has_layout, why) }
      too_fine layouts.Memory why = tt
      too_fine _ why = absurd why
