-- What stands in a table in which the lengths of edges were put along paths.
use Rattle.std.proofs.Common.{rules, ◌≡◌, ◌≢◌, ℕ, ◌<◌, ◌⊎◌, inl, inr, List, length, Some, None, Option, refl, sym, ap}
use Rattle.std.proofs.Common.{◌∙◌, arith, ◌-◌, Bool, true, false, cond, [], map, replicate, get_or, true≢false, zero}
use Rattle.{std.proofs.Common.suc, std.proofs.Common.◌∷◌, std.specs.Prelude.slice_index, def_text.specs.Types.Positions}
use Rattle.std.proofs.lemmas.List.{length-map, length-replicate, length-set, get_or-set_other, get_or_default}
use Rattle.std.proofs.lemmas.{Bool.cases_eq, Bool.cond_both, List.get_or-map, List.get_or-replicate}
use Rattle.{std.proofs.lemmas.Grind.same_number_lists, def_layout.specs.declared.tmesh.TArc.TArc}
use Rattle.std.proofs.lemmas.List.FromFn.{get_or-map-range_with_len, length-map-range_with_len}
use Rattle.def_mesh.specs.{Darts.darts, Darts.twin_of, Darts.all_darts, HalfEdges.half_edges, HalfEdges.IsQuadManifold}
use Rattle.{def_mesh.specs.Faces.Faces, std.specs.List.All, std.specs.List.fold}
use Rattle.qm_metric.specs.Lengths.{with_dart, with_edge, with_twin, with_arcs, with_path}
use Rattle.def_layout.specs.Arcs.{dart_at, long_at, path, path_at, AreArcs, LiesAt}
use Rattle.{def_cut.specs.FullCut.is_on, def_cut.specs.FullCut.IsFullCut, def_metric.specs.Targets.edge_length}

-- A fold keeps what each of its steps keeps.
fold_keeps : {A X : Type 0} (f : A → X → A) (P : A → Type 0) (a : A) (xs : List X)
    → ((k : ℕ) (d : X) (b : A) → k < length xs → P b → P (f b (get_or xs k d))) → P a → P (fold f a xs)
fold_keeps f P a [] step is = is
fold_keeps f P a (x ∷ xs) step is =
    fold_keeps f P (f a x) xs (λ k d b low. step (suc k) d b (omega (arith, low))) (step 0 x a (omega arith) is)

-- It makes what one of its steps makes and the others keep.
fold_makes : {A X : Type 0} (f : A → X → A) (Q P : A → Type 0) (a : A) (xs : List X) (k : ℕ) → k < length xs
    → ((j : ℕ) (d : X) (b : A) → j < length xs → Q b → Q (f b (get_or xs j d)))
    → ((j : ℕ) (d : X) (b : A) → j < length xs → P b → P (f b (get_or xs j d)))
    → ((d : X) (b : A) → Q b → P (f b (get_or xs k d))) → Q a → P (fold f a xs)
fold_makes f Q P a [] k low keeps stays made is = absurd (omega (arith, low))
fold_makes f Q P a (x ∷ xs) zero low keeps stays made is =
    fold_keeps f P (f a x) xs (λ j d b l. stays (suc j) d b (omega (arith, l))) (made x a is)
fold_makes f Q P a (x ∷ xs) (suc k) low keeps stays made is =
    fold_makes f Q P (f a x) xs k (omega (arith, low)) (λ j d b l. keeps (suc j) d b (omega (arith, l)))
    (λ j d b l. stays (suc j) d b (omega (arith, l))) made (keeps 0 x a (omega arith) is)

module _ (faces : Faces) (places : Positions) (laws : IsQuadManifold (half_edges faces)) where
  -- The edge of one dart is that of another.
  abbrev AreOfOne : (d c : ℕ) → Type 0
  AreOfOne d c = (d ≡ c) ⊎ (twin_of faces d ≡ Some c)

  -- A table of all darts.
  abbrev IsTable : (table : List ℕ) → Type 0
  IsTable table = length table ≡ darts faces

  -- The length of its edge stands at a dart.
  abbrev Stands : (c : ℕ) (table : List ℕ) → Type 0
  Stands c table = IsTable table × (slice_index table c ≡ edge_length faces places c)

  dart_table : (table : List ℕ) (d : ℕ) → IsTable table → IsTable (with_dart faces places table d)
  dart_table table d is = length-set table d (edge_length faces places d) ∙ is

  dart_put : (table : List ℕ) (d : ℕ) → d < darts faces → IsTable table → Stands d (with_dart faces places table d)
  dart_put table d low is = search rules

  dart_off : (table : List ℕ) (d c : ℕ) → d ≢ c → slice_index (with_dart faces places table d) c ≡ slice_index table c
  dart_off table d c ne = get_or-set_other table d c (edge_length faces places d) 0 (λ e. ne (sym e))

  dart_stays : (table : List ℕ) (d c : ℕ) → d < darts faces → Stands c table → Stands c (with_dart faces places table d)
  dart_stays table d c low (is, stands) = elim (cases_eq d c) [
    | inl same ↦ rw (← same) (dart_put table d low is)
    | inr ne ↦ (dart_table table d is, dart_off table d c ne ∙ stands)
  ]

  -- What holds after a dart, and is kept at its twin, holds after the edge.
  twin_by : (P : List ℕ → Type 0) (table : List ℕ) (twin : Option ℕ) → P table
      → ((e : ℕ) → twin ≡ Some e → P (with_dart faces places table e)) → P (with_twin faces places table twin)
  twin_by P table None first more = first
  twin_by P table (Some e) first more = more e refl

  edge_table : (table : List ℕ) (d : ℕ) → IsTable table → IsTable (with_edge faces places table d)
  edge_table table d is = let first = dart_table table d is in
      twin_by IsTable _ (twin_of faces d) first (λ e found. dart_table _ e first)

  twin_stays : (table : List ℕ) (d c : ℕ) → d < darts faces → Stands c (with_dart faces places table d)
      → Stands c (with_edge faces places table d)
  twin_stays table d c low first = twin_by (Stands c) _ (twin_of faces d) first
      (λ e found. dart_stays _ e c (laws.twin_low d e low found) first)

  edge_stays : (table : List ℕ) (d c : ℕ) → d < darts faces → Stands c table → Stands c (with_edge faces places table d)
  edge_stays table d c low stands = twin_stays table d c low (dart_stays table d c low stands)

  edge_put : (table : List ℕ) (d c : ℕ) → d < darts faces → AreOfOne d c → IsTable table
      → Stands c (with_edge faces places table d)
  edge_put table d c low (inl same) is = rw (← same) (twin_stays table d d low (dart_put table d low is))
  edge_put table d c low (inr twin) is =
      rw twin (dart_put (with_dart faces places table d) c (laws.twin_low d c low twin) (dart_table table d is))

  edge_off : (table : List ℕ) (d c : ℕ) → ¬ AreOfOne d c
      → slice_index (with_edge faces places table d) c ≡ slice_index table c
  edge_off table d c off =
      let first = dart_off table d c (λ is. off (inl is)) in
      twin_by (λ (t : List ℕ). slice_index t c ≡ slice_index table c) _ (twin_of faces d) first
      (λ e found. dart_off _ e c (λ is. off (inr (found ∙ ap Some is))) ∙ first)

  -- The lengths of the edges along all arcs of a full cut are those of all its edges.
  module _ (marks : List Bool) (full : IsFullCut faces marks) (node : ℕ → Bool) (arcs : List TArc)
      (are : AreArcs (half_edges faces) (is_on marks) node (map path arcs))
      (inside : All (λ (arc : TArc). All (λ (d : ℕ). d < darts faces) arc.darts.items) arcs) where
    there : (a : ℕ) (arc : TArc) → a < length arcs → path_at (map path arcs) a ≡ path (get_or arcs a arc)
    there a arc low = get_or-map path arcs a arc _ low

    -- The edges of arcs are on the cut, and so are their other darts.
    on : (a : ℕ) (arc : TArc) (k c : ℕ) → a < length arcs → k < length (get_or arcs a arc).darts.items
        → AreOfOne (slice_index (get_or arcs a arc).darts.items k) c → is_on marks c ≡ true
    on a arc k c low less touches =
        let run = rw (there a arc low) at (are.each a (omega (arith, low, length-map arcs path))) in
        let here = ap (is_on marks) (run.each k less) ∙ run.run.on k less in
        elim touches [
          | inl same ↦ rw (← same) here
          | inr twin ↦
              full.alike (slice_index (get_or arcs a arc).darts.items k) c (inside a arc low k 0 less) twin ∙ here
        ]

    abbrev filled : List ℕ
    filled = with_arcs faces places (replicate (darts faces) 0) arcs

    -- What each edge of an arc keeps is kept along the arcs.
    keeps : (P : List ℕ → Type 0) → ((a : ℕ) (arc : TArc) (k d : ℕ) (t : List ℕ) → a < length arcs
        → k < length (get_or arcs a arc).darts.items → P t
        → P (with_edge faces places t (get_or (get_or arcs a arc).darts.items k d))) → (a : ℕ) (arc : TArc)
        (t : List ℕ) → a < length arcs → P t → P (with_path faces places t (get_or arcs a arc).darts.items)
    keeps P step a arc t low = fold_keeps (with_edge faces places) P t (get_or arcs a arc).darts.items
        (λ k d b less. step a arc k d b low less)

    abbrev along : (t : List ℕ) (arc : TArc) → List ℕ
    along t arc = with_path faces places t arc.darts.items

    tables : (a : ℕ) (arc : TArc) (t : List ℕ) → a < length arcs → IsTable t
        → IsTable (with_path faces places t (get_or arcs a arc).darts.items)
    tables = keeps IsTable (λ a arc k d t low less. edge_table t (get_or (get_or arcs a arc).darts.items k d))

    -- A dart of the cut has its length.
    filled_on : (c : ℕ) → c < darts faces → is_on marks c ≡ true → slice_index filled c ≡ edge_length faces places c
    filled_on c low is = let (a, place, forward, la, lp, lies) = are.covers c low is in
        found a place la lp forward lies
      where
        put : (a k : ℕ) → a < length (map path arcs) → k < long_at (map path arcs) a
            → AreOfOne (dart_at (map path arcs) a k) c → slice_index filled c ≡ edge_length faces places c
        put a k la lk touches =
            let less : a < length arcs = omega (arith, la, length-map arcs path) in
            (fold_makes along IsTable (Stands c) (replicate (darts faces) 0) arcs a less tables
            (keeps (Stands c) (λ j arc k d t l low.
            edge_stays t (get_or (get_or arcs j arc).darts.items k d) c (inside j arc l k d low))) (λ arc b.
            let run = (get_or arcs a arc).darts.items in
            let low = rw (there a arc less) at lk in
            let meets = rw (there a arc less) at touches in
            fold_makes (with_edge faces places) IsTable (Stands c) b run k low
            (λ j d t l. edge_table t (get_or run j d))
            (λ j d t l. edge_stays t (get_or run j d) c (inside a arc less j d l))
            (λ d t. edge_put t (get_or run k d) c (inside a arc less k d low)
            (rw (get_or_default run k d 0 low) meets)))
            (length-replicate (darts faces) 0)).1

        found : (a place : ℕ) → a < length (map path arcs) → place < long_at (map path arcs) a → (forward : Bool)
            → LiesAt (half_edges faces) (path_at (map path arcs) a).darts forward place c
            → slice_index filled c ≡ edge_length faces places c
        found a place la lp true lies = put a place la lp (inl (sym lies))
        found a place la lp false lies = put a (long_at (map path arcs) a - 1 - place) la (omega (arith, lp)) (inr lies)

    -- Another dart has none.
    filled_off : (c : ℕ) → c < darts faces → is_on marks c ≡ false → slice_index filled c ≡ 0
    filled_off c low off = fold_keeps along (λ (t : List ℕ). slice_index t c ≡ 0) (replicate (darts faces) 0) arcs
        (keeps (λ (t : List ℕ). slice_index t c ≡ 0) (λ a arc k d t l less kept.
        edge_off t (get_or (get_or arcs a arc).darts.items k d) c (λ touches. true≢false (sym (on a arc k c l less
        (rw (get_or_default (get_or arcs a arc).darts.items k 0 d less) touches)) ∙ off)) ∙ kept))
        (get_or-replicate (darts faces) c 0 0 low)

    -- So the table is that of the cut.
    pub filled_is : filled ≡ map (λ d. cond (is_on marks d) (edge_length faces places d) 0) (all_darts faces)
    filled_is =
        let f = λ (d : ℕ). cond (is_on marks d) (edge_length faces places d) 0 in
        let table = fold_keeps along IsTable (replicate (darts faces) 0) arcs tables
        (length-replicate (darts faces) 0) in
        same_number_lists filled (map f (all_darts faces)) (table ∙ sym (length-map-range_with_len f 0 (darts faces)))
        (λ c l.
        let low : c < darts faces = omega (arith, l, table) in
        cond_both (is_on marks c) (edge_length faces places c) 0 (λ n. slice_index filled c ≡ n) (filled_on c low)
        (filled_off c low) ∙ sym (get_or-map-range_with_len f 0 (darts faces) c c 0 low (omega arith)))
