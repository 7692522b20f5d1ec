-- The soup of a text that is read can be written, and a mesh of it is what all laws of meshes ask for.
use Rattle.std.proofs.Common.{rules, ◌≡◌, ℕ, zero, suc, ◌-◌, ◌≤◌, Bool, true, List, [], ◌∷◌, length, map, refl, ap, ◌∙◌}
use Rattle.std.proofs.Common.{arith, subst, eqb, Ok}
use Rattle.std.proofs.{lemmas.List.length-map, lemmas.List.map-append, lemmas.List.Folds.list_all-append}
use Rattle.std.proofs.lemmas.List.Sums.{AllPass-from_list_all, list_all-from_AllPass}
use Rattle.def_text.specs.Text.{faces, first_refusal, line_vertex, position_of, positions, readings, used_to}
use Rattle.def_text.specs.{FaceSet.FaceSet, Laws.is_position, Laws.IsWritableSoup, Logical.logical_lines}
use Rattle.qm_mesh.proofs.Vertices.{below_from, corners_from, count_is}
use Rattle.qm_obj.proofs.SoupLemmas.{face_set_is_soup, few_pos, same_faces, used_more}
use Rattle.{std.proofs.lemmas.List.Folds.list_all-map, std.specs.List.list_all, def_mesh.specs.Faces.Faces}
use Rattle.{def_readlaws.specs.ReadMeshes.MeshTextLaw, def_readlaws.specs.ReadMeshes.SoupInLaw}
use Rattle.{def_text.specs.Types.Positions, def_text.specs.declared.refusal.ObjFail.ObjFail}
use Rattle.{qm_obj.proofs.TailLemmas.parts_none, qm_obj.proofs.TailLemmas.passes_at}
use Rattle.{read_laws.proofs.SaidLines.are_known, read_laws.proofs.SaidLines.are_said, def_io.specs.Lines.lines_of}
use Rattle.remesh_laws.proofs.Printable.{quads_of}

-- The used positions of a list can be written where all can.
used_near : (ps : Positions) (fs : Faces) (n : ℕ) → n ≤ length ps → list_all is_position ps ≡ true
    → list_all is_position (map (position_of ps) (used_to fs n)) ≡ true
used_near ps fs zero few near = refl
used_near ps fs (suc n) few near =
    let here : is_position (position_of ps (suc n)) ≡ true = search (rules, passes_at) in
    search (rules, used_more, map-append, list_all-append, used_near ps fs n (omega arith) near)

-- What passes a test passes a weaker one.
pub all_weaker : {X : Type 0} (p q : X → Bool) → ((x : X) → p x ≡ true → q x ≡ true) → (xs : List X)
    → list_all p xs ≡ true → list_all q xs ≡ true
all_weaker p q weaker xs all = search (rules, list_all-from_AllPass, AllPass-from_list_all)

-- An accepted text has no refusal.
accepted : (fails : List ObjFail) (x soup : FaceSet) → first_refusal fails x ≡ Ok soup → (fails ≡ []) × (x ≡ soup)
accepted [] x soup said = (refl, cc said)
accepted (fail ∷ fails) x soup said = cc said

pub soup_in_law : SoupInLaw
soup_in_law bytes soup read =
    let said = readings [] (logical_lines 1 (lines_of bytes)) in
    let ps = positions said in
    let fs = faces said in
    let fine = accepted _ _ _ read in
    let none = parts_none _ _ fine.0 in
    let are = are_said [] (logical_lines 1 (lines_of bytes)) none.0 in
    subst IsWritableSoup fine.1 (record {
      soup = face_set_is_soup ps fs (are_known _ said none.1 are.positive);
      positions = used_near ps fs (length ps) (omega arith) are.near;
      quads = list_all-map _ _ fs ∙ all_weaker _ _ (λ face four. ap (λ n. eqb n 4) (length-map face (line_vertex fs))
          ∙ four) fs are.quads;
      few_vertices = omega (arith, few_pos ps fs, are.few_vertices (omega arith));
      few_faces = omega (arith, same_faces ps fs, are.few_faces (omega arith));
    })

pub mesh_text_law : MeshTextLaw
mesh_text_law bytes soup is =
    let fine = soup_in_law bytes soup is.said in
    let quads = quads_of soup.faces fine.quads in
    let n = length soup.pos in
    let count = count_is soup.faces n (below_from soup.faces quads n fine.soup.in_range)
    (corners_from soup.faces quads n fine.soup.used) in
    search (rules, all_weaker)
