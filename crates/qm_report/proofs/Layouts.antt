-- The lines of the layout of a chosen cut.
use Rattle.std.proofs.Common.{append-nil, ℕ, arith, append_assoc, Option, ◌+◌, [], None, Bool, length, get_or, ◌++◌, ap}
use Rattle.std.proofs.Common.{List, map, ◌≡◌, ◌∙◌, ◌∷◌, ◌<◌, sym, Some, refl, ◌≤◌, filter}
use Rattle.std.proofs.lemmas.{List.length-map, List.get_or_default, List.get_or-map, Grind.flat_map-append}
use Rattle.std.proofs.lemmas.List.{Sums.length-filter, Sums.count_by-le-length, FromFn.length-range_with_len}
use Rattle.std.specs.{Prelude.decimal, List.flat_map, List.range_with_len}
use Rattle.def_text.specs.{FaceSet.FaceSet, declared.letters.TheConstants.SPACE}
use Rattle.def_report.specs.GraphText.{numbers_line, numbers_text}
use Rattle.def_cuttext.specs.LayoutText.{break_line, place_in_file, whole_arc_line}
use Rattle.def_layout.specs.{Layouts.layout_of, Layouts.Layout, Layouts.vertex_at, Arcs.path, Arcs.Path, Arcs.path_at}
use Rattle.def_layout.specs.declared.tmesh.{TMesh.TMesh, TArc.TArc}
use Rattle.def_mesh.specs.{Darts.from_of, Darts.darts, Faces.Faces, Vertices.vertex_count, Vertices.all_vertices}
use Rattle.{def_remesh.specs.Placings.IsMeshLayout, qm_report.proofs.Texts.behind, qm_report.specs.Words.word_of}
use Rattle.{def_io.specs.declared.TheConstants.LINE_FEED, embedding_laws.proofs.OneLayout.in_mesh}

-- Where no marks are kept no lines break.
pub none_breaks : (soup : FaceSet) (vs : List ℕ) → flat_map (break_line soup None) vs ≡ []
none_breaks soup [] = refl
none_breaks soup (v ∷ vs) = none_breaks soup vs

-- An arc that was read: its darts are darts of the mesh, and its last node is a node.
pub record IsArc (faces : Faces) (here : Layout) (a : ℕ) (arc : TArc) : Type 0 where
  pub read : path_at here.arcs a ≡ path arc
  pub along : (k d : ℕ) → k < length arc.darts.items → get_or arc.darts.items k d < darts faces
  pub last : arc.last < length here.nodes

pub arc_is : (t : TMesh) (faces : Faces) {here : Layout} (a : ℕ) {arc : TArc} → layout_of t ≡ here
    → IsMeshLayout faces here → a < length here.arcs → arc ≡ get_or t.arcs.items a arc → IsArc faces here a arc
arc_is t faces {here} a {arc} same (is, own) low got = record {
  read = read;
  along = λ k d less. rw (get_or_default arc.darts.items k d 0 less, ← own)
      (rw read at ((in_mesh is.faces is.marks here is.mesh is.quads is.cut is.laid).arc_low a k low
      (omega (arith, less, ap (λ (p : Path). length p.darts) read))));
  last = rw read at (is.laid.last_low a low);
}
  where
    read : path_at here.arcs a ≡ path arc
    read = ap (λ (p : Layout). path_at p.arcs a) (sym same) ∙ get_or-map path t.arcs.items a arc
        (record { first = 0; last = 0; darts = [] })
        (omega (arith, low, ap (λ (p : Layout). length p.arcs) same, length-map t.arcs.items path)) ∙ ap path (sym got)

-- Text t5 has a line more than text t0.
pub line_behind : (word ns : List ℕ) (x y z : ℕ) (t0 : List ℕ) {t1 t2 t3 t4 t5 : List ℕ} → t1 ≡ t0 ++ word
    → t2 ≡ t1 ++ numbers_text (x ∷ y ∷ []) → t3 ≡ t2 ++ numbers_text ns → t4 ≡ t3 ++ SPACE ∷ decimal z
    → t5 ≡ t4 ++ LINE_FEED ∷ [] → t5 ≡ t0 ++ numbers_line word (x ∷ y ∷ (ns ++ z ∷ []))
line_behind word ns x y z t0 {t1} e1 e2 e3 e4 e5 =
    let all : numbers_text (x ∷ y ∷ (ns ++ z ∷ [])) ≡ numbers_text (x ∷ y ∷ []) ++ (numbers_text ns ++ SPACE ∷ decimal
    z) = flat_map-append (λ n. SPACE ∷ decimal n) (x ∷ y ∷ []) (ns ++ z ∷ [])
    ∙ ap (λ (text : List ℕ). numbers_text (x ∷ y ∷ []) ++ text) (flat_map-append (λ n. SPACE ∷ decimal n) ns (z ∷ [])
    ∙ ap (λ (text : List ℕ). numbers_text ns ++ text) (append-nil (SPACE ∷ decimal z))) in
    behind t0 (word ++ numbers_text (x ∷ y ∷ (ns ++ z ∷ []))) (LINE_FEED ∷ []) (behind t0 word _ e1
    (e4 ∙ ap (λ (text : List ℕ). text ++ SPACE ∷ decimal z) (e3 ∙ ap (λ (text : List ℕ). text ++ numbers_text ns) e2)
    ∙ append_assoc (t1 ++ numbers_text (x ∷ y ∷ [])) (numbers_text ns) (SPACE ∷ decimal z)
    ∙ append_assoc t1 (numbers_text (x ∷ y ∷ [])) (numbers_text ns ++ SPACE ∷ decimal z)
    ∙ ap (λ (text : List ℕ). t1 ++ text) (sym all))) e5

-- The numbers of the vertices along an arc.
abbrev pub along_numbers : (soup : FaceSet) (ds : List ℕ) → List ℕ
along_numbers soup ds = map (λ d. place_in_file soup.names (from_of soup.faces d) + 1) ds

along_names : (soup : FaceSet) (ds : List ℕ) (v : ℕ) → along_numbers soup ds ++ (place_in_file soup.names v + 1) ∷ []
    ≡ map (λ v. place_in_file soup.names v + 1) (map (from_of soup.faces) ds ++ v ∷ [])
along_names soup [] v = refl
along_names soup (d ∷ ds) v = cc (along_names soup ds v)

-- The line of an arc.
pub arc_written : (soup : FaceSet) (kept : Option (List Bool)) (here : Layout) (a : ℕ) (arc : TArc)
    → path_at here.arcs a ≡ path arc → numbers_line (word_of kept arc) ((a + 1) ∷ length arc.darts.items
    ∷ (along_numbers soup arc.darts.items ++ (place_in_file soup.names (vertex_at here arc.last) + 1) ∷ []))
    ≡ whole_arc_line soup kept here a
arc_written soup None here a arc read = rw (along_names soup arc.darts.items (vertex_at here arc.last), read)
arc_written soup (Some marks) here a arc read =
    rw (along_names soup arc.darts.items (vertex_at here arc.last), read)

-- What is read of a layout, and how many pass a filter.

-- A table over all vertices has a place for each.
pub place_low : {X : Type 0} (f : ℕ → X) (faces : Faces) {xs : List X} {v : ℕ} → xs ≡ map f (all_vertices faces)
    → v < vertex_count faces → v < length xs
place_low f faces is low =
    let all = length-range_with_len 0 (vertex_count faces) in
    omega (arith, ap length is, length-map (all_vertices faces) f)

-- A filter of the first numbers leaves at most all of them.
pub filter_few : (p : ℕ → Bool) (n : ℕ) → length (filter p (range_with_len 0 n)) ≤ n
filter_few p n =
    let few = count_by-le-length p (range_with_len 0 n) in
    omega (arith, length-filter p (range_with_len 0 n), length-range_with_len 0 n)
