-- A mesh with a full cut has arcs, in order of their names, and uses of them.
use Rattle.std.proofs.Common.{rules, ◌≡◌, ◌⊎◌, ℕ, zero, suc, ◌+◌, ◌-◌, ◌/◌, ◌<◌, ◌≤◌, Bool, true, false, List, [], ◌∷◌}
use Rattle.std.proofs.Common.{◌++◌, length, get_or, set, replicate, Option, Some, None, sym, ◌∙◌, ap, subst, refl, inl}
use Rattle.std.proofs.Common.{inr, arith, length-append}
use Rattle.std.proofs.lemmas.Bool.{cases_Bool, cases_eq, false≢true, cases_lt}
use Rattle.std.proofs.lemmas.List.{length-replicate, get_or_append_left, get_or-append-add}
use Rattle.def_cut.specs.{FullCut.is_on, Grids.IsPartition, Grids.Rectangle, Grids.patch_at, Steps.easts}
use Rattle.def_layout.specs.{Arcs.long_at, Arcs.path_at, Arcs.IsRun, Arcs.Path, Nodes.is_node}
use Rattle.def_layout.specs.{declared.tmesh.SideArc.SideArc, Borders.border_dart, Borders.side_size, Gluings.east}
use Rattle.def_layout.specs.{Gluings.north, Gluings.south, Gluings.west, Gluings.Way, Layouts.way_number}
use Rattle.def_mesh.specs.{Darts.darts, Darts.from_of, Darts.next_of, Darts.to_of, Darts.twin_of, Faces.Faces}
use Rattle.def_mesh.specs.{HalfEdges.HalfEdges, HalfEdges.half_edges, Vertices.vertex_count}
use Rattle.layout_laws.proofs.{Borders.each_in_run, Runs.run_low, Runs.same_length, Runs.same_place, Uses.named_or_back}
use Rattle.layout_laws.proofs.{Uses.run_long}
use Rattle.qm_tmesh.specs.{Arcs.AreArcsBelow, Arcs.IsArcFrom, Tables.IsMarked, Tables.IsNamedRun, Uses.AreNamed}
use Rattle.qm_tmesh.specs.{Uses.HasUsesBelow, Uses.use_in, Four.AreAllFour, Four.AreFour, Four.AreRuns}
use Rattle.qm_tmesh.specs.{Four.HavePatches, Four.IsPatchOf, Sides.IsSideOf, Sides.IsSideSoFar, Sides.IsSplit}
use Rattle.qm_tmesh.proofs.ArcTables.{named_low, named_some, arcs_more, arcs_none, arcs_skip}
use Rattle.qm_tmesh.proofs.{UseTables.clash, UseTables.uses_more, UseTables.side_more, Walks.name_dart}
use Rattle.qm_tmesh.proofs.{Splits.side_split}
use Rattle.{std.specs.List.filter, std.specs.List.range_with_len, layout_laws.specs.Named.run_list}
use Rattle.{layout_laws.specs.Named.run_name, list_laws.proofs.Filters.place_of, mesh_laws.proofs.Flood.all_below}

module _ {faces : Faces} {cut marks : List Bool} (marked : IsMarked faces cut marks) where
  abbrev mesh : HalfEdges
  mesh = half_edges faces

  -- The nodes, by their numbers.
  abbrev pub node_list : List ℕ
  node_list = filter (is_on marks) (range_with_len 0 (length marks))

  place : (v : ℕ) → v < vertex_count faces → is_node faces cut v ≡ true → (k : ℕ) × (k < length node_list)
      × (get_or node_list k 0 ≡ v)
  place v low on = search (rules, place_of)

  -- The arc of a run.
  arc_from : (s n : ℕ) → IsRun mesh (is_on cut) (is_node faces cut) s n → (p : Path) × IsArcFrom faces cut node_list s p
  arc_from s n run =
      let last = easts mesh s (n - 1) in
      let next_low = marked.laws.next_low last (run_low mesh marked.laws (is_on cut) marked.full (is_node faces cut)
      marked.stand s n run (n - 1) (omega (arith, run.some))) in
      let (a, a_low, a_at) = place (from_of faces s) (all_below faces s run.low) run.begins in
      let (b, b_low, b_at) = place (to_of faces last) (all_below faces (next_of last) next_low)
      (run.ends (n - 1) (omega (arith, run.some))) in
      let long = run_long mesh s n in (
        record { first = a; last = b; darts = run_list mesh s n },
        record {
          run = rw long run;
          darts = ap (run_list mesh s) (sym long);
          first_low = a_low;
          last_low = b_low;
          first_at = a_at;
          last_at = λ k e. let same : n - 1 ≡ k = omega (arith, e, long) in
              b_at ∙ ap (λ (i : ℕ). to_of faces (easts mesh s i)) same;
        },
      )

  -- No run names an arc so.
  abbrev IsNoName : ℕ → Type 0
  IsNoName m = (s n : ℕ) → IsNamedRun faces cut s n → run_name mesh s n ≡ m → ⊥

  module _ {ps : List Rectangle} (parts : IsPartition (half_edges faces) (is_on cut) (λ d. d / 4) ps) where
    -- Runs through one dart are one.
    one_run : (m s n k q j : ℕ) → IsRun mesh (is_on cut) (is_node faces cut) s n → k < n → easts mesh s k ≡ m
        → IsNamedRun faces cut q j → run_name mesh q j ≡ m → (q ≡ s) × (j ≡ n)
    one_run m s n k q j run lk at named is =
        let (i, li, here) = name_dart marked q j named in
        let same = (same_place mesh marked.laws (is_on cut) marked.full (is_node faces cut) marked.stand q j s n
        named.run run i k li lk (here ∙ (is ∙ sym at))).0 in (
          same,
          same_length mesh marked.laws (is_on cut) marked.full (is_node faces cut) marked.stand s j n
              (subst (λ (x : ℕ). IsRun mesh (is_on cut) (is_node faces cut) x j) same named.run) run,
        )

    -- A number is the name of one run, or of none.
    named_or_not : (m : ℕ) → m < darts faces
        → ((s : ℕ) × (n : ℕ) × IsNamedRun faces cut s n × (run_name mesh s n ≡ m)) ⊎ IsNoName m
    named_or_not m low = elim (cases_Bool (is_on cut m)) [
      | inl on ↦ by_run (each_in_run mesh marked.laws (is_on cut) marked.full (is_node faces cut) marked.stand
          (λ d. d / 4) ps parts m low on)
      | inr off ↦ inr (λ s n named is. let (k, lk, here) = name_dart marked s n named in
          false≢true (sym off ∙ (ap (is_on cut) (sym (here ∙ is)) ∙ named.run.on k lk)))
    ]
      where
        by_run : (s : ℕ) × (n : ℕ) × (k : ℕ) × IsRun mesh (is_on cut) (is_node faces cut) s n × (k < n)
            × (easts mesh s k ≡ m)
            → ((s : ℕ) × (n : ℕ) × IsNamedRun faces cut s n × (run_name mesh s n ≡ m)) ⊎ IsNoName m
        by_run (s, n, k, run, lk, at) = elim (named_or_back mesh marked.laws (is_on cut) marked.full (is_node faces cut)
            marked.stand s n run) [
              | inl named ↦ elim (cases_eq (run_name mesh s n) m) [
                | inl e ↦ inl (s, n, named, e)
                | inr ne ↦ inr (λ q j other is. let one = one_run m s n k q j run lk at other is in
                    ne ((λ i. run_name mesh (sym one.0 i) (sym one.1 i)) ∙ is))
              ]
              | inr (r, back, named) ↦ inr (λ q j other is.
                  let one = one_run m s n k q j run lk at other is in
                  clash marked s n r n (subst (λ (x : ℕ). IsNamedRun faces cut x n) one.0
                  (subst (λ (i : ℕ). IsNamedRun faces cut q i) one.1 other)) named
                  (marked.laws.twin_twin s (easts mesh r (n - 1)) run.low
                  (back.twin 0 (n - 1) (omega (arith, run.some)))))
            ]

    arcs_below : (m : ℕ) → m ≤ darts faces → (arcs : List Path) × AreArcsBelow faces cut node_list m arcs
    arcs_below zero low = ([], arcs_none marked node_list)
    arcs_below (suc m) low =
        let to_suc : m + 1 ≡ suc m = omega arith in
        let (arcs, so) = arcs_below m (omega arith) in
        elim (named_or_not m (omega arith)) [
          | inl (s, n, named, is) ↦ let (p, from) = arc_from s n named.run in
              (arcs ++ p ∷ [], rw (← to_suc) (arcs_more marked so named is from))
          | inr none ↦ (arcs, rw (← to_suc) (arcs_skip marked so none))
        ]

    pub arcs_exist : (arcs : List Path) × AreArcsBelow faces cut node_list (darts faces) arcs
    arcs_exist = arcs_below (darts faces) (omega arith)

  -- The table of uses.
  module _ {arcs : List Path} (named : AreNamed faces cut arcs) where
    uses_below : (a : ℕ) → a ≤ length arcs → (uses : List SideArc) × HasUsesBelow faces arcs a uses
    uses_below zero low = (
      replicate (darts faces) (record { arc = 0; forward = true }),
      record {
        long = length-replicate (darts faces) (record { arc = 0; forward = true });
        each = λ a e forward l. absurd (omega arith);
      },
    )
    uses_below (suc a) low = let (uses, so) = uses_below a (omega arith) in
        next uses so (twin_of faces (get_or (path_at arcs a).darts (long_at arcs a - 1) 0)) refl
      where
        to_suc : a + 1 ≡ suc a
        to_suc = omega arith

        first : ℕ
        first = get_or (path_at arcs a).darts 0 0

        first_low : first < darts faces
        first_low = named_low marked named a 0 (omega arith) (named_some marked named a (omega arith))

        next : (uses : List SideArc) → HasUsesBelow faces arcs a uses → (last : Option ℕ)
            → last ≡ twin_of faces (get_or (path_at arcs a).darts (long_at arcs a - 1) 0)
            → (uses : List SideArc) × HasUsesBelow faces arcs (suc a) uses
        next uses so None is =
            let one = set uses first (record { arc = a; forward = true }) in (
              one,
              rw (← to_suc) (uses_more marked named (omega arith) so refl is refl first_low (λ t e. absurd cc)
                  (λ e. refl)),
            )
        next uses so (Some t) is =
            let one = set uses first (record { arc = a; forward = true }) in (
              set one t (record { arc = a; forward = false }),
              rw (← to_suc) (uses_more marked named (omega arith) so refl
                  is refl first_low (λ u e. let same : t ≡ u = cc in
                  ap (λ (x : ℕ). set one x (record { arc = a; forward = false })) same) (λ e. absurd cc)),
            )

    pub uses_exist : (uses : List SideArc) × HasUsesBelow faces arcs (length arcs) uses
    uses_exist = uses_below (length arcs) (omega arith)

-- Lists of what there is for each number, and least numbers.

-- Where there is something for each number below n, a list has it.
pub chosen : {X : Type 0} (d : X) (P : ℕ → X → Type 0) (n : ℕ) → ((k : ℕ) → k < n → (x : X) × P k x)
    → (xs : List X) × (length xs ≡ n) × ((k : ℕ) → k < n → P k (get_or xs k d))
chosen d P zero each = ([], refl, λ k l. absurd (omega arith))
chosen d P (suc n) each =
    let (xs, long, all) = chosen d P n (λ k l. each k (omega arith)) in
    let (x, here) = each n (omega arith) in (
      xs ++ x ∷ [],
      length-append xs (x ∷ []) ∙ omega (arith, long),
      λ k l. elim (cases_eq k n) [
        | inl s ↦ let e : n ≡ length xs + 0 = omega (arith, long) in
            rw (s, ap (λ (i : ℕ). get_or (xs ++ x ∷ []) i d) e ∙ get_or-append-add xs (x ∷ []) 0 d) here
        | inr ne ↦ rw (get_or_append_left xs (x ∷ []) d k (omega (arith, l, ne, long))) (all k (omega (arith, l, ne)))
      ],
    )

-- The least number that passes a test, where some number does.
pub least_passing : (p : ℕ → Bool) (e : ℕ) → p e ≡ true → (d : ℕ) × (p d ≡ true) × ((x : ℕ) → p x ≡ true → d ≤ x)
least_passing p e on = search e 0 (omega arith) (λ x l. absurd (omega arith))
  where
    found : (k : ℕ) → ((x : ℕ) → x < k → p x ≡ false) → p k ≡ true → (d : ℕ) × (p d ≡ true)
        × ((x : ℕ) → p x ≡ true → d ≤ x)
    found k before here = search rules

    search : (left k : ℕ) → k + left ≡ e → ((x : ℕ) → x < k → p x ≡ false) → (d : ℕ) × (p d ≡ true)
        × ((x : ℕ) → p x ≡ true → d ≤ x)
    search zero k sum before = let same : k ≡ e = omega arith in found k before (rw same on)
    search (suc left) k sum before = elim (cases_Bool (p k)) [
      | inl here ↦ found k before here
      | inr off ↦ search left (suc k) (omega arith)
          (λ x l. elim (cases_eq x k) [ inl s ↦ rw s off | inr ne ↦ before x (omega arith) ])
    ]

-- The sides of patches are made up of uses of arcs.

-- A line that is split has a side.
module _ {arcs : List Path} {uses : List SideArc} {line : List ℕ} {starts : ℕ → Bool}
    (split : IsSplit arcs uses line starts) where
  grown : (fuel t : ℕ) (used : List SideArc) → length line ≤ t + fuel → IsSideSoFar arcs uses line starts t used
      → (us : List SideArc) × IsSideOf arcs uses line us
  grown zero t used far so = (used, record { total = so.at ∙ omega (arith, far, so.high); each = so.each })
  grown (suc fuel) t used far so = elim (cases_lt t (length line)) [
    | inl low ↦
        let next = use_in uses (get_or line t 0) in
        let here = split.step t low (so.next low) in
        grown fuel (t + long_at arcs next.arc) (used ++ next ∷ []) (omega (arith, far, here.some))
        (side_more split so low refl refl)
    | inr end ↦ (used, record { total = so.at ∙ omega (arith, end, so.high); each = so.each })
  ]

  side : (us : List SideArc) × IsSideOf arcs uses line us
  side = grown (length line) 0 [] (omega arith) (record {
    at = refl;
    high = omega arith;
    next = split.first;
    each = λ k l. absurd (omega arith);
  })

module _ {faces : Faces} {arcs : List Path} {uses : List SideArc} (runs : AreRuns faces arcs uses) (patch : Rectangle)
    (is : IsPatchOf faces runs.cut patch) where
  on : (way : Way) → (us : List SideArc) × IsSideOf arcs uses
      (run_list (half_edges faces) (border_dart (half_edges faces) patch way 0) (side_size patch way)) us
  on way = side (side_split runs is way)

  four : (four : List (List SideArc)) × AreFour faces arcs uses patch four
  four = ((on south).0 ∷ (on east).0 ∷ (on north).0 ∷ (on west).0 ∷ [], record { count = refl; each = each })
    where
      each : (way : Way) → IsSideOf arcs uses
          (run_list (half_edges faces) (border_dart (half_edges faces) patch way 0) (side_size patch way))
          (get_or ((on south).0 ∷ (on east).0 ∷ (on north).0 ∷ (on west).0 ∷ []) (way_number way) [])
      each south = (on south).1
      each east = (on east).1
      each north = (on north).1
      each west = (on west).1

-- All patches have their sides.
pub sides_exist : {faces : Faces} {arcs : List Path} {uses : List SideArc} {patches : List Rectangle}
    → HavePatches faces arcs uses patches
    → (sides : List (List (List SideArc))) × AreAllFour faces arcs uses patches sides
sides_exist {faces} {arcs} {uses} {patches} (runs, placed) =
    let (sides, count, each) = chosen [] (λ p four. AreFour faces arcs uses (patch_at patches p) four)
    (length patches) (λ p l. four runs (patch_at patches p) (placed p l)) in
    (sides, record { count = count; each = each })
