-- The marks along chains of edges are those of inner edges, equal at twins.
use Rattle.std.proofs.Common.{Decides, rules, Bool, List, Some, arith, eqb, false, is_some, sym, ◌&&◌, ◌+◌, ◌<◌, ◌||◌}
use Rattle.std.proofs.Common.{◌∙◌, ◌≡◌, ap, ℕ, None, [], get_or, length, refl, true, inl, inr, set, ◌∷◌, ◌≢◌, ◌⊎◌, map}
use Rattle.std.proofs.Common.{◌%◌, ◌*◌, ◌++◌, ◌/◌, ◌^◌, ◌≤◌, cond}
use Rattle.std.proofs.{lemmas.Bool.or_right, lemmas.Bool.cases_Bool, lemmas.Option.none-some, lemmas.Option.same_Some}
use Rattle.std.proofs.lemmas.List.Elements.{All-filter, All-map, Contains-get_or, at_from_Contains}
use Rattle.std.proofs.lemmas.Bool.Decides.{Decides-and, Decides-eqb, Decides-or}
use Rattle.std.proofs.lemmas.List.Sorted.{All-permutation, Contains-permutation}
use Rattle.std.proofs.lemmas.List.FromFn.{get_or-map-range_with_len, length-range_with_len, get_or-range_with_len}
use Rattle.std.proofs.lemmas.List.{get_or_default, same_lists, length-map, get_or-set_other, get_or-set_same}
use Rattle.std.proofs.lemmas.List.{FromFn.length-map-range_with_len, length-set, get_or-map, map-append}
use Rattle.std.proofs.lemmas.Bool.{and_from, cases_eq, false≢true}
use Rattle.std.proofs.lemmas.List.Folds.{list_all-append, list_all_at, list_any-append}
use Rattle.std.proofs.Math.Bool.{and-true, or-false, or_comm}
use Rattle.std.specs.List.{All, list_any, list_all, range_with_len, Contains}
use Rattle.std.specs.{List.Sorted.IsNonDecreasing, List.Sorted.IsPermutation, Prelude.filter}
use Rattle.def_marks.specs.Chains.{is_along_chains, link_at, marks_along, runs_along, runs_between, step_places}
use Rattle.def_mesh.specs.Darts.{IsTwin, all_darts, from_of, twin_of, darts, to_of, next_of}
use Rattle.def_mesh.specs.{Manifold.IsManifold, Faces.Faces, Vertices.vertex_count}
use Rattle.mesh_laws.proofs.Chains.{twin_found, twin_is, next_of_low}
use Rattle.list_laws.proofs.Filters.{range_any, range_more, filter_range_more, place_of}
use Rattle.qm_marks.specs.Keys.{IsNoneBetween, AreEnds, IsBetween, IsLeastPlace, dart_key, is_busy, key_of}
use Rattle.{std.proofs.lemmas.Nat.div-mul-add, std.proofs.lemmas.Nat.mod-mul-add, def_marks.specs.Chains.is_edge}
use Rattle.{mesh_laws.proofs.Flood.all_below, def_feature.specs.Marks.AreMarks, def_cut.specs.FullCut.is_on}

-- A list of the values of all numbers below n.
pub is_map : {X : Type 0} (f : ℕ → X) (n : ℕ) (d : X) (xs : List X) → length xs ≡ n
    → ((k : ℕ) → k < n → get_or xs k d ≡ f k) → xs ≡ map f (range_with_len 0 n)
is_map f n d xs long each =
    let same = length-map-range_with_len f 0 n in
    same_lists xs (map f (range_with_len 0 n)) (long ∙ sym same) (λ k e l. let low : k < n = omega arith in
    get_or_default xs k e d l ∙ (each k low ∙ sym (get_or-map-range_with_len f 0 n k k e low (omega arith))))

-- The mark of a dart.
pub mark_along : (faces : Faces) (chains : List (List ℕ)) (d : ℕ) → d < darts faces → is_on (marks_along faces chains) d
    ≡ is_along_chains faces chains d
mark_along faces chains d l = search (rules, get_or-map-range_with_len)

turned : (a b c e : Bool) → ((e && c) || (b && a)) ≡ ((a && b) || (c && e))
turned a b c e = grind (arith)

-- Whether two numbers are two others, in either order.
ends_decide : (a b u v : ℕ) → Decides ((eqb a u && eqb b v) || (eqb a v && eqb b u))
    (((a ≡ u) × (b ≡ v)) ⊎ ((a ≡ v) × (b ≡ u)))
ends_decide a b u v = Decides-or (eqb a u && eqb b v) (eqb a v && eqb b u)
    (Decides-and (eqb a u) (eqb b v) (Decides-eqb a u) (Decides-eqb b v))
    (Decides-and (eqb a v) (eqb b u) (Decides-eqb a v) (Decides-eqb b u))

module _ (faces : Faces) (d e : ℕ) (twin : twin_of faces d ≡ Some e) where
  is : IsTwin faces d e
  is = twin_is faces d e twin

  -- Twins run between the same vertices, and along the same chains.
  between_twins : (u v : ℕ) → runs_between faces u v e ≡ runs_between faces u v d
  between_twins u v = rw (is.1, is.2)
      (turned (eqb (from_of faces d) u) (eqb (to_of faces d) v) (eqb (from_of faces d) v) (eqb (to_of faces d) u))

  along_twins : (chain : List ℕ) → runs_along faces chain e ≡ runs_along faces chain d
  along_twins chain = λ i. list_any (λ k. between_twins (link_at chain k) (link_at chain (k + 1)) i) (step_places chain)

  marked_twins : (chains : List (List ℕ)) → IsManifold faces → d < darts faces
      → is_along_chains faces chains e ≡ is_along_chains faces chains d
  marked_twins chains m l = rw (twin_found faces m.edges_once e d (l, sym is.2, sym is.1), twin)
      (λ i. list_any (λ chain. along_twins chain i) chains)

pub marks_are : (faces : Faces) (chains : List (List ℕ)) → IsManifold faces → AreMarks faces (marks_along faces chains)
marks_are faces chains m = record {
  long = length-map (all_darts faces) (is_along_chains faces chains) ∙ length-range_with_len 0 (darts faces);
  alike = λ d e l t. mark_along faces chains e (twin_is faces d e t).0
      ∙ (marked_twins faces d e t chains m l ∙ sym (mark_along faces chains d l));
  inner = λ d l t. rw (mark_along faces chains d l, t) refl;
}

-- What is not along a chain keeps its mark.
pub unmarked : (o s : Bool) → o ≡ (o || (s && false))
unmarked o s = grind (arith)

-- One edge more is marked, and one chain of edges.

module _ (faces : Faces) (m : IsManifold faces) where
  -- What runs between the ends of a dart is that dart or its twin, and nothing else.
  edge_cases : (d x : ℕ) → d < darts faces → x < darts faces
      → ((runs_between faces (from_of faces d) (to_of faces d) x ≡ true) × ((x ≡ d) ⊎ (twin_of faces d ≡ Some x)))
      ⊎ ((runs_between faces (from_of faces d) (to_of faces d) x ≡ false) × (x ≢ d) × (twin_of faces d ≢ Some x))
  edge_cases d x ld lx =
      let decide = ends_decide (from_of faces x) (to_of faces x) (from_of faces d) (to_of faces d) in
      elim (cases_Bool (runs_between faces (from_of faces d) (to_of faces d) x)) [
        | inl on ↦ inl (
          on,
          elim (decide.0 on) [
            | inl same ↦ inl (m.edges_once x d lx ld same)
            | inr back ↦ inr (twin_found faces m.edges_once d x (lx, back.0, back.1))
          ],
        )
        | inr off ↦ inr (
          off,
          λ e. false≢true (sym off ∙ decide.1 (inl (ap (from_of faces) e, ap (to_of faces) e))),
          λ t. let is = twin_is faces d x t in false≢true (sym off ∙ decide.1 (inr (is.1, is.2))),
        )
      ]

  -- What is put at the dart of an edge, and at its twin, stands at the darts of that edge alone.
  pub put_one : {X : Type 0} (xs : List X) (y n : X) (d : ℕ) → d < darts faces → length xs ≡ darts faces
      → twin_of faces d ≡ None → (x : ℕ) → x < darts faces
      → get_or (set xs d y) x n ≡ cond (runs_between faces (from_of faces d) (to_of faces d) x) y (get_or xs x n)
  put_one xs y n d ld long none x lx = elim (edge_cases d x ld lx) [
    | inl on ↦ rw on.0 (elim on.1 [
      | inl e ↦ rw e (get_or-set_same xs d y n (omega (arith, ld, long)))
      | inr t ↦ absurd (none-some x (sym none ∙ t))
    ])
    | inr off ↦ rw off.0 (get_or-set_other xs d x y n off.1)
  ]

  pub put_two : {X : Type 0} (xs : List X) (y n : X) (d t : ℕ) → d < darts faces → length xs ≡ darts faces
      → twin_of faces d ≡ Some t → (x : ℕ) → x < darts faces → get_or (set (set xs d y) t y) x n
      ≡ cond (runs_between faces (from_of faces d) (to_of faces d) x) y (get_or xs x n)
  put_two xs y n d t ld long twin x lx =
      let low = (twin_is faces d t twin).0 in
      elim (edge_cases d x ld lx) [
        | inl on ↦ rw on.0 (elim (cases_eq x t) [
          | inl e ↦ rw e (get_or-set_same (set xs d y) t y n (omega (arith, low, long, length-set xs d y)))
          | inr ne ↦ get_or-set_other (set xs d y) t x y n ne ∙ elim on.1 [
            | inl e ↦ rw e (get_or-set_same xs d y n (omega (arith, ld, long)))
            | inr tw ↦ absurd (ne (same_Some x t (sym tw ∙ twin)))
          ]
        ])
        | inr off ↦ rw off.0 (get_or-set_other (set xs d y) t x y n (λ e. off.2 (rw e twin))
            ∙ get_or-set_other xs d x y n off.1)
      ]

  -- Where inner edges alone are marked, an edge of one dart is not.
  pub mark_none : (d : ℕ) (marks : List Bool) → d < darts faces → twin_of faces d ≡ None → (x : ℕ) → x < darts faces
      → is_on marks x ≡ (is_on marks x
      || (is_some (twin_of faces x) && runs_between faces (from_of faces d) (to_of faces d) x))
  mark_none d marks ld none x lx = elim (edge_cases d x ld lx) [
    | inl on ↦ elim on.1 [
      | inl e ↦ let alone : twin_of faces x ≡ None = rw e none in rw alone (sym (or-false (is_on marks x)))
      | inr t ↦ absurd (none-some x (sym none ∙ t))
    ]
    | inr off ↦ rw off.0 (unmarked (is_on marks x) (is_some (twin_of faces x)))
  ]

  -- Both darts of another edge are.
  pub mark_both : (d t : ℕ) (marks : List Bool) → d < darts faces → length marks ≡ darts faces → twin_of faces d
      ≡ Some t → (x : ℕ) → x < darts faces → is_on (set (set marks d true) t true) x
      ≡ (is_on marks x || (is_some (twin_of faces x) && runs_between faces (from_of faces d) (to_of faces d) x))
  mark_both d t marks ld long twin x lx = put_two marks true false d t ld long twin x lx ∙ elim (edge_cases d x ld lx) [
    | inl on ↦
        let some : is_some (twin_of faces x) ≡ true = elim on.1 [
          | inl e ↦ ap (λ y. is_some (twin_of faces y)) e ∙ ap is_some twin
          | inr tw ↦ let is = twin_is faces d x tw in
              ap is_some (twin_found faces m.edges_once x d (ld, sym is.2, sym is.1))
        ] in
        rw (on.0, some) (sym (or_right (is_on marks x) true refl))
    | inr off ↦ rw off.0 (unmarked (is_on marks x) (is_some (twin_of faces x)))
  ]

-- A dart between u and v has the darts of its edge between its own ends.
pub same_edge : (faces : Faces) (u v d x : ℕ) → runs_between faces u v d ≡ true
    → runs_between faces (from_of faces d) (to_of faces d) x ≡ runs_between faces u v x
same_edge faces u v d x on = elim ((ends_decide (from_of faces d) (to_of faces d) u v).0 on) [
  | inl same ↦ rw (same.0, same.1) refl
  | inr back ↦ rw (back.0, back.1)
      (or_comm (eqb (from_of faces x) v && eqb (to_of faces x) u) (eqb (from_of faces x) u && eqb (to_of faces x) v))
]

-- A test under another, with one case more.
pub merged : (o s a b : Bool) → ((o || (s && a)) || (s && b)) ≡ (o || (s && (a || b)))
merged o s a b = grind (arith)

-- One step more of a chain.
pub step_more : (now old : Bool) (some : Bool) (p : ℕ → Bool) (k : ℕ) (mid : Bool)
    → mid ≡ (old || (some && list_any p (range_with_len 0 k)))
    → now ≡ (mid || (some && p k)) → now ≡ (old || (some && list_any p (range_with_len 0 (k + 1))))
step_more now old some p k mid before step = search (rules, range_more, list_any-append)

-- So many steps of a chain are marked.
pub record IsChainTo (faces : Faces) (chain : List ℕ) (old now : List Bool) (n : ℕ) : Type 0 where
  pub long : length now ≡ darts faces
  pub edges : list_all (λ k. is_edge faces (link_at chain k) (link_at chain (k + 1))) (range_with_len 0 n) ≡ true
  pub marks : (d : ℕ) → d < darts faces → is_on now d
      ≡ (is_on old d || (is_some (twin_of faces d)
      && list_any (λ k. runs_between faces (link_at chain k) (link_at chain (k + 1)) d) (range_with_len 0 n)))

all_more : (p : ℕ → Bool) (n : ℕ) → list_all p (range_with_len 0 (n + 1)) ≡ (list_all p (range_with_len 0 n) && p n)
all_more p n = rw (range_more n, list_all-append p (range_with_len 0 n) (n ∷ []), and-true (p n)) refl

pub chain_more : (faces : Faces) (chain : List ℕ) (old now new : List Bool) (n : ℕ) → IsChainTo faces chain old now n
    → length new ≡ darts faces → is_edge faces (link_at chain n) (link_at chain (n + 1)) ≡ true
    → ((d : ℕ) → d < darts faces → is_on new d ≡ (is_on now d
    || (is_some (twin_of faces d) && runs_between faces (link_at chain n) (link_at chain (n + 1)) d)))
    → IsChainTo faces chain old new (n + 1)
chain_more faces chain old now new n to long edge step = record {
  long = long;
  edges = all_more (λ k. is_edge faces (link_at chain k) (link_at chain (k + 1))) n ∙ and_from _ _ to.edges edge;
  marks = λ d l. step_more (is_on new d) (is_on old d) (is_some (twin_of faces d))
      (λ k. runs_between faces (link_at chain k) (link_at chain (k + 1)) d) n (is_on now d) (to.marks d l) (step d l);
}

pub no_edge : (faces : Faces) (u v : ℕ) → IsNoneBetween faces u v → IsNoneBetween faces v u → is_edge faces u v ≡ false
no_edge faces u v none back = search (rules, range_any)

-- A step that is no edge.
pub all_not : (p : ℕ → Bool) (n k : ℕ) → k < n → p k ≡ false → list_all p (range_with_len 0 n) ≡ false
all_not p n k low off =
    let e : get_or (range_with_len 0 n) k 0 ≡ k = get_or-range_with_len 0 n k 0 low ∙ omega arith in
    list_all_at p (range_with_len 0 n) k 0 (omega (arith, length-range_with_len 0 n)) (ap p e ∙ off)

-- Darts in a table of keys by their ends.

-- The key of some dart.
abbrev IsKey : (faces : Faces) (key : ℕ) → Type 0
IsKey faces key = (d : ℕ) × (d < darts faces) × (key ≡ dart_key faces d)

-- The keys of the busy darts, in any order that rises, are a table of ends.
pub sorted_are : (faces : Faces) (few : ℕ) (old keys : List ℕ)
    → old ≡ map (dart_key faces) (filter (is_busy faces few) (all_darts faces))
    → IsPermutation old keys → IsNonDecreasing keys → AreEnds faces few keys
sorted_are faces few old keys are moved rising = record { rising = rising; each = each; has = has }
  where
    busy : List ℕ
    busy = filter (is_busy faces few) (all_darts faces)

    each : (k : ℕ) → k < length keys → IsKey faces (get_or keys k 0)
    each k l =
        let all : All (λ d. IsKey faces (dart_key faces d)) (all_darts faces) = λ i e low. (
          get_or (all_darts faces) i e,
          omega (
            arith,
            get_or-range_with_len 0 (darts faces) i e (omega (arith, length-range_with_len 0 (darts faces))),
            length-range_with_len 0 (darts faces),
          ),
          refl,
        ) in
        All-permutation (IsKey faces) old keys moved (rw are (All-map (IsKey faces) (dart_key faces) busy
        (All-filter (is_busy faces few) (λ d. IsKey faces (dart_key faces d)) (all_darts faces) all))) k 0 l

    has : (d : ℕ) → d < darts faces → is_busy faces few d ≡ true → (k : ℕ) × (k < length keys)
        × (get_or keys k 0 ≡ dart_key faces d)
    has d l on =
        let place = place_of (is_busy faces few) 0 (darts faces) d
        (record { low = omega arith; high = omega arith; passes = on }) in
        let here = get_or-map (dart_key faces) busy place.0 0 0 place.1 ∙ ap (dart_key faces) place.2 in
        let c : Contains old (dart_key faces d) = rw (are, ← here) (Contains-get_or (map (dart_key faces) busy) place.0
        0 (omega (arith, length-map busy (dart_key faces)))) in
        let at = at_from_Contains keys (dart_key faces d) (Contains-permutation old keys (dart_key faces d) moved c) in
        (at.0, at.1, at.2 0)

-- The ends in a key.
pub key_ends : (u v d : ℕ) → d < 2 ^ 32 → key_of u v d / 2 ^ 32 ≡ u * 2 ^ 32 + v
key_ends u v d l = div-mul-add (u * 2 ^ 32 + v) (2 ^ 32) d l

pub same_ends : (u v f t : ℕ) → v < 2 ^ 32 → t < 2 ^ 32 → f * 2 ^ 32 + t ≡ u * 2 ^ 32 + v → (f ≡ u) × (t ≡ v)
same_ends u v f t lv lt e = search rules

-- What lies between two multiples.
pub between : (a x : ℕ) → a * 2 ^ 32 ≤ x → x < a * 2 ^ 32 + 2 ^ 32 → x / 2 ^ 32 ≡ a
between a x l h = search rules

module _ (faces : Faces) (few : ℕ) (keys : List ℕ) (are : AreEnds faces few keys) (small : vertex_count faces < 2 ^ 32)
    (short : darts faces < 2 ^ 32) (u v : ℕ) (low : v < 2 ^ 32) (place : ℕ) where
  -- A key with these ends is that of a dart between them.
  pub in_table : place < length keys → get_or keys place 0 / 2 ^ 32 ≡ key_of u v 0 / 2 ^ 32
      → IsBetween faces u v (get_or keys place 0 % 2 ^ 32)
  in_table l same =
      let at = are.each place l in
      let f = from_of faces at.0 in
      let t = to_of faces at.0 in
      let to_low : t < 2 ^ 32 = omega (arith, all_below faces (next_of at.0) (next_of_low faces at.0 at.1)) in
      let ends = same_ends u v f t low to_low (sym (key_ends f t at.0 (omega arith))
      ∙ (sym (ap (λ x. x / 2 ^ 32) at.2) ∙ (same ∙ key_ends u v 0 (omega arith)))) in
      let dart : get_or keys place 0 % 2 ^ 32 ≡ at.0 = ap (λ x. x % 2 ^ 32) at.2
      ∙ mod-mul-add (f * 2 ^ 32 + t) (2 ^ 32) at.0 (omega arith) in
      rw dart (record { low = at.1; from = ends.0; to = ends.1 })

  -- Where none of these ends is at the least place, no busy dart runs between them.
  pub not_in_table : IsLeastPlace keys (key_of u v 0) place
      → ((l : place < length keys) → get_or keys place 0 / 2 ^ 32 ≢ key_of u v 0 / 2 ^ 32)
      → ((d : ℕ) → d < darts faces → from_of faces d ≡ u → is_busy faces few d ≡ true) → IsNoneBetween faces u v
  not_in_table least other busy d ld f t =
      let has = are.has d ld (busy d ld f) in
      let key : get_or keys has.0 0 ≡ (u * 2 ^ 32 + v) * 2 ^ 32 + d =
      has.2 ∙ (λ i. (f i * 2 ^ 32 + t i) * 2 ^ 32 + d) in
      let at = least has.0 has.1 (omega arith) in
      other at.0 (between (u * 2 ^ 32 + v) (get_or keys place 0) (omega arith)
      (omega arith) ∙ sym (key_ends u v 0 (omega arith)))

-- One dart more is busy, or is not.
pub keys_more : (faces : Faces) (few d : ℕ)
    → map (dart_key faces) (filter (is_busy faces few) (range_with_len 0 (d + 1)))
    ≡ map (dart_key faces) (filter (is_busy faces few) (range_with_len 0 d))
    ++ map (dart_key faces) (cond (is_busy faces few d) (d ∷ []) [])
keys_more faces few d = rw (filter_range_more (is_busy faces few) d) (map-append (dart_key faces) _ _)
