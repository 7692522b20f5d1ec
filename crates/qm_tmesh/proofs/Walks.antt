-- The loops over fans, runs and names, turn by turn.
use Rattle.std.proofs.lemmas.Grind.{common_steps}
use Rattle.std.proofs.lemmas.List.{get_or-set_same, get_or-set_other, get_or_append_left, get_or_push, length-set}
use Rattle.std.proofs.Common.{rules, ◌≡◌, ℕ, ◌+◌, ◌<◌, ◌≤◌, Bool, true, false, cond, List, [], ◌∷◌, ◌++◌, length}
use Rattle.std.proofs.Common.{get_or, set, Some, option_map, sym, ◌∙◌, ap, refl, inl, inr, arith, length-append}
use Rattle.def_mesh.specs.Darts.{darts, from_of, next_of, twin_of, straight_of, to_of}
use Rattle.layout_laws.proofs.{Runs.on_from, Runs.walked, Runs.run_low, Runs.same_length, Uses.run_long, Uses.run_entry}
use Rattle.std.proofs.lemmas.{List.length_push, List.FromFn.map-range_with_len_more, Bool.cases_eq}
use Rattle.def_mesh.specs.{Faces.Faces, Vertices.fan_of, Vertices.vertex_count, HalfEdges.HalfEdges}
use Rattle.{def_mesh.specs.HalfEdges.half_edges, def_cut.specs.FullCut.is_on, def_cut.specs.Grids.least_of}
use Rattle.{def_cut.specs.Steps.step_east, def_cut.specs.Steps.easts, def_layout.specs.Arcs.end_vertex}
use Rattle.{def_layout.specs.Arcs.IsRun, def_layout.specs.Nodes.is_node, list_laws.proofs.Filters.filter_range_more}
use Rattle.{list_laws.proofs.Filters.last_or, cut_laws.proofs.Classes.least_there, layout_laws.proofs.Uses.same_named}
use Rattle.{layout_laws.specs.Named.run_list, layout_laws.specs.Named.run_name, qm_tmesh.specs.Tables.IsMarked}
use Rattle.{qm_tmesh.specs.Tables.IsNamedRun, qm_tmesh.specs.Tables.AreStarts, std.specs.List.filter}
use Rattle.{std.specs.List.range_with_len, mesh_laws.proofs.Chains.is_fan, mesh_laws.proofs.Flood.all_below}

-- What holds of each before and of the last holds of each.
pub push_each : {X : Type 0} (P : ℕ → X → Type 0) (xs : List X) (y d : X)
    → ((k : ℕ) → k < length xs → P k (get_or xs k d)) → P (length xs) y
    → (k : ℕ) → k < length (xs ++ y ∷ []) → P k (get_or (xs ++ y ∷ []) k d)
push_each P xs y d each here k l = grind (arith, common_steps, each k)

-- The darts of a fan are darts.
pub fan_low : (faces : Faces) (v : ℕ) (fan : List ℕ) → fan ≡ fan_of faces v → (k : ℕ) → k < length fan
    → get_or fan k 0 < darts faces
fan_low faces v fan e k l = (is_fan faces v fan e).dart k l

-- One dart more in a list of the darts straight on from s.
pub listed_more : (mesh : HalfEdges) (s i : ℕ) {d : ℕ} {now new : List ℕ} → d ≡ easts mesh s i → now ≡ run_list mesh s i
    → new ≡ now ++ d ∷ [] → (new ≡ run_list mesh s (i + 1)) × (length new ≡ i + 1)
listed_more mesh s i {new = new} at listed put =
    let is : new ≡ run_list mesh s (i + 1) = cc (map-range_with_len_more (easts mesh s) 0 i i (omega arith)) in
    (is, ap length is ∙ run_long mesh s (i + 1))

module _ {faces : Faces} {cut nodes : List Bool} (marked : IsMarked faces cut nodes) where
  abbrev mesh : HalfEdges
  mesh = half_edges faces

  abbrev node : (v : ℕ) → Bool
  node = is_node faces cut

  -- From dart s a walk has come to dart d, i darts on, and has met no node.
  module _ {s d i : ℕ} (low : s < darts faces) (on : is_on cut s ≡ true) (at : d ≡ easts mesh s i)
      (inner : (k : ℕ) → k < i → node (end_vertex mesh (easts mesh s k)) ≡ false) where
    pub walk_straight : node (end_vertex mesh d) ≡ false → straight_of faces d ≡ Some (step_east mesh d)
    walk_straight off =
        let (d_low, d_on) = walked _ marked.laws _ marked.full _ marked.stand s i low on inner i (omega arith) in
        let goes = on_from _ marked.laws _ marked.full _ marked.stand (easts mesh s i) d_low d_on (rw at at off) in
        cc (ap (option_map next_of) goes.over, marked.laws.next_prev (step_east mesh d))

    pub walk_inner : node (end_vertex mesh d) ≡ false → (k : ℕ) → k < i + 1
        → node (end_vertex mesh (easts mesh s k)) ≡ false
    walk_inner off k l = elim (last_or i k l) [ inl before ↦ inner k before | inr e ↦ cc ]

  -- What the table of marks tells of the vertex where a dart ends.
  pub told_end : (d : ℕ) {v : ℕ} {b : Bool} → v ≡ to_of faces d → v < vertex_count faces → is_on nodes v ≡ b
      → node (end_vertex mesh d) ≡ b
  told_end d is low at = cc (marked.told _ low)

  -- What a table tells of the vertex where a dart begins.
  pub node_from : (d : ℕ) → d < darts faces → is_on nodes (from_of faces d) ≡ is_node faces cut (from_of faces d)
  node_from d l = marked.told (from_of faces d) (all_below faces d l)

  -- A list of the darts of a run that begins with s.
  module _ {s : ℕ} {list : List ℕ} (run : IsRun mesh (is_on cut) node s (length list))
      (is : list ≡ run_list mesh s (length list)) where
    pub dart_is : (k : ℕ) → k < length list → get_or list k 0 ≡ easts mesh s k
    dart_is k l = cc (run_entry mesh s (length list) k l)

    -- It names its arc where its least dart is less than all twins.
    pub run_named : ((k t : ℕ) → k < length list → twin_of faces (get_or list k 0) ≡ Some t → least_of list < t)
        → IsNamedRun faces cut s (length list)
    run_named less = search (rules, ← is, dart_is)

    pub run_unnamed : (k : ℕ) × (t : ℕ) × (k < length list) × (twin_of faces (get_or list k 0) ≡ Some t)
        × (t ≤ least_of list) → (n : ℕ) → IsNamedRun faces cut s n → ⊥
    run_unnamed (k, t, l, tw, le) n named =
        let same = same_length _ marked.laws _ marked.full _ marked.stand s (length list) n run named.run in
        grind (arith, common_steps, named.named k t, dart_is k l)

    pub run_darts : (k : ℕ) → k < length list → get_or list k 0 < darts faces
    run_darts k l = search (rules, dart_is, run_low)

  -- The name of a run is one of its darts.
  pub name_dart : (s n : ℕ) → IsNamedRun faces cut s n → (k : ℕ) × (k < n) × (easts mesh s k ≡ run_name mesh s n)
  name_dart s n named =
      let (k, l, e) = least_there (run_list mesh s n) (omega (arith, run_long mesh s n, named.run.some)) in
      grind (arith, run_long mesh s n, run_entry mesh s n k)

  pub name_low : (s n : ℕ) → IsNamedRun faces cut s n → run_name mesh s n < darts faces
  name_low s n named = let (k, l, e) = name_dart s n named in
      rw (← e) (run_low _ marked.laws _ marked.full _ marked.stand s n named.run k l)

  -- The table of starts.
  pub starts_skip : {s : ℕ} {starts : List ℕ} → AreStarts faces cut s starts → ((n : ℕ) → IsNamedRun faces cut s n → ⊥)
      → AreStarts faces cut (s + 1) starts
  starts_skip {s} {starts} so none = record {
    long = so.long;
    right = so.right;
    first = λ r n l named. elim (last_or s r l)
        [ inl k ↦ so.first r n k named | inr e ↦ absurd (none n (rw e at named)) ];
  }

  pub starts_more : {s n name : ℕ} {starts : List ℕ} → s < darts faces → AreStarts faces cut s starts
      → IsNamedRun faces cut s n → run_name mesh s n ≡ name → AreStarts faces cut (s + 1) (set starts name s)
  starts_more {s} {n} {name} {starts} ls so named is = record {
    long = length-set starts name s ∙ so.long;
    right = λ m l ne. search (rules, cases_eq m name, so.right m);
    first = λ r k l other. elim (cases_eq (run_name mesh r k) name) [
      | inl e ↦ rw (e, here) (same_named _ marked.laws _ marked.full _ marked.stand s n r k named other (cc)).0
      | inr ne ↦ get_or-set_other starts name (run_name mesh r k) s 0 ne ∙ elim (last_or s r l) [
        | inl before ↦ so.first r k before other
        | inr e ↦ absurd (ne (let long = same_length _ marked.laws _ marked.full _ marked.stand r k n other.run
            (rw e named.run) in cc))
      ]
    ];
  }
    where
      here : get_or (set starts name s) name 0 ≡ s
      here = get_or-set_same starts name s 0 (omega (arith, name_low s n named, so.long, marked.long))

-- The numbers below v that pass a test are listed, and each has its place in the list.
pub record AreListed (p : ℕ → Bool) (v : ℕ) (list places : List ℕ) : Type 0 where
  pub listed : list ≡ filter p (range_with_len 0 v)
  pub few : length list ≤ v
  pub long : length places ≡ v
  pub stands : (u : ℕ) → u < v → p u ≡ true
      → (get_or places u 0 < length list) × (get_or list (get_or places u 0) 0 ≡ u)

-- One number more.
pub list_more : {p : ℕ → Bool} {v : ℕ} {list places more new : List ℕ} → AreListed p v list places
    → more ≡ places ++ length list ∷ [] → new ≡ list ++ cond (p v) (v ∷ []) [] → AreListed p (v + 1) new more
list_more {p} {v} {list} {places} i put is = record {
  listed = is ∙ (ap (λ xs. xs ++ cond (p v) (v ∷ []) []) i.listed ∙ sym (filter_range_more p v));
  few = omega (arith, i.few, ap length is, length-append list (cond (p v) (v ∷ []) []), short (p v));
  long = ap length put ∙ (length_push _ _ ∙ omega (arith, i.long));
  stands = λ u l pu. grind (arith, common_steps, i.stands u);
}
  where
    short : (b : Bool) → length (cond b (v ∷ []) []) ≤ 1
    short true = omega arith
    short false = omega arith
