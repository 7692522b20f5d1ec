-- The marks that the text of a mesh says are marks of the mesh.
use Rattle.std.proofs.Common.{rules, ◌≡◌, ℕ, Bool, ◌&&◌, List, Option, Some, is_some, sym, subst, ap}
use Rattle.std.proofs.Common.{◌∙◌, map, refl, Ok, Err, Result}
use Rattle.std.proofs.lemmas.List.FromFn.{length-range_with_len, get_or-map-range_with_len}
use Rattle.def_fit.specs.FitTasks.{kept_in}
use Rattle.def_marks.specs.Chains.{is_along_chains, marks_along, runs_along}
use Rattle.def_marks.specs.Lines.{line_chain, marks_in, text_lines}
use Rattle.def_mesh.specs.Darts.{all_darts, darts, IsTwin}
use Rattle.{std.proofs.lemmas.List.length-map, std.specs.List.list_any, std.specs.Result.result_map_both}
use Rattle.{def_marks.specs.declared.fail.MarkFail.MarkFail, def_mesh.specs.Faces.Faces}
use Rattle.{def_mesh.specs.Manifold.IsManifold, def_patches.specs.Chosen.AreKeptMarks}
use Rattle.{def_patches.specs.declared.Keep.Keep, def_readlaws.specs.ReadMarks.AsidesInLaw}
use Rattle.{def_readlaws.specs.ReadMarks.MarksInLaw, def_feature.specs.Marks.AreMarks, def_io.specs.Bytes.Bytes}
use Rattle.{def_io.specs.Lines.lines_of, def_run.specs.Mesh.IsMeshText, def_text.specs.FaceSet.FaceSet}
use Rattle.{def_text.specs.Logical.logical_lines, mesh_laws.proofs.Chains.twin_found, mesh_laws.proofs.Chains.twin_is}
use Rattle.def_patches.specs.declared.Keep.TheVariants as keeps

-- Twins run along the same chains.
twins_along : (faces : Faces) (d e : ℕ) → IsTwin faces d e → (chain : List ℕ) → runs_along faces chain e
    ≡ runs_along faces chain d
twins_along faces d e is chain = search rules

-- The marks along chains are those of inner edges, equal at twins.
pub chain_marks : (faces : Faces) (chains : List (List ℕ)) → IsManifold faces
    → AreMarks faces (marks_along faces chains)
chain_marks faces chains m =
    let along = λ (d : ℕ) (o : Option ℕ). is_some o && list_any (λ chain. runs_along faces chain d) chains in
    record {
      long = length-map (all_darts faces) (is_along_chains faces chains) ∙ length-range_with_len 0 (darts faces);
      alike = λ d e low twin.
          let is = twin_is faces d e twin in
          search (rules, get_or-map-range_with_len)
          ∙ (ap (along e) (twin_found faces m.edges_once e d (low, sym is.2, sym is.1))
          ∙ ((λ i. list_any (λ chain. twins_along faces d e is chain i) chains)
          ∙ (sym (ap (along d) twin) ∙ sym (search (rules, get_or-map-range_with_len)))));
      inner = λ d low none. search (rules, get_or-map-range_with_len) ∙ ap (along d) none;
    }

pub marks_in_law : MarksInLaw
marks_in_law bytes soup marks is said =
    let lines = text_lines (logical_lines 1 (lines_of bytes)) in
    subst (AreMarks soup.faces) (search rules) (chain_marks soup.faces (map (line_chain soup) lines) is.manifold)

kept_marks : (keep : Keep) (bytes : Bytes) (soup : FaceSet) (kept : Option (List Bool)) → IsMeshText bytes soup
    → kept_in keep bytes soup ≡ Ok kept → AreKeptMarks soup.faces kept
kept_marks keeps.Nothing bytes soup kept is said = search rules
kept_marks keeps.Lines bytes soup kept is said = by_marks (marks_in bytes soup) refl said
  where
    by_marks : (r : Result (List Bool) MarkFail) → marks_in bytes soup ≡ r → result_map_both Some (λ fail. fail) r
        ≡ Ok kept → AreKeptMarks soup.faces kept
    by_marks (Err fail) read said = cc said
    by_marks (Ok marks) read said = let same : Some marks ≡ kept = cc said in
        subst (AreKeptMarks soup.faces) same (marks_in_law bytes soup marks is read)

pub asides_in_law : AsidesInLaw
asides_in_law fit bytes soup asides is said = search (rules, kept_marks)
