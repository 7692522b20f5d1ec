-- What is read of the sides of a layout.
use Rattle.std.proofs.Common.{◌≡◌, ℕ, ◌<◌, List, [], map, length, get_or, ap, arith, ◌⊎◌, zero, suc, ◌+◌, ◌-◌, ◌≤◌}
use Rattle.std.proofs.Common.{Bool, true, false, Some, sym, ◌∙◌, inl, inr}
use Rattle.std.proofs.lemmas.List.FromFn.{get_or-map-range_with_len, length-map-range_with_len}
use Rattle.std.proofs.{lemmas.List.get_or-map, lemmas.List.length-map, lemmas.Bool.cases_eq, lemmas.Bool.cases_lt}
use Rattle.def_layout.specs.{declared.tmesh.Side.Side, declared.tmesh.SideArc.SideArc, Arcs.IsRun, Arcs.IsArc}
use Rattle.def_layout.specs.{Arcs.LiesAt, Nodes.AreNodes}
use Rattle.def_mesh.specs.HalfEdges.{HalfEdges, IsQuadManifold}
use Rattle.def_cut.specs.{Cuts.Cut, Cuts.IsCut, Steps.easts}
use Rattle.layout_laws.specs.Named.{run_list, run_name, IsNamed}
use Rattle.cut_laws.proofs.Classes.{least_high, least_there}
use Rattle.layout_laws.proofs.Runs.{none_or, IsBack, run_low, same_place, same_length, back_run, no_mirror}

-- The arcs of a side.
abbrev pub arcs_of : (side : Side) → List SideArc
arcs_of side = side.arcs.items

-- The side that was read.
pub read_side : (sides : List (List Side)) (p k : ℕ) (four : List Side) (side : Side)
    → p < length sides → four ≡ get_or sides p four → length (get_or (map (map arcs_of) sides) p []) ≡ 4 → k < 4
    → get_or (get_or (map (map arcs_of) sides) p []) k [] ≡ (get_or four k side).arcs.items
read_side sides p k four side l is many lk =
    let found : get_or (map (map arcs_of) sides) p [] ≡ map arcs_of four =
    cc (get_or-map (map arcs_of) sides p four [] l) in
    cc (get_or-map arcs_of four k side [] (omega (arith, many, lk, ap length found, length-map four arcs_of)))

-- The arcs of a cut and their uses.

pub run_long : (mesh : HalfEdges) (s n : ℕ) → length (run_list mesh s n) ≡ n
run_long mesh s n = length-map-range_with_len (easts mesh s) 0 n

pub run_entry : (mesh : HalfEdges) (s n k : ℕ) → k < n → get_or (run_list mesh s n) k 0 ≡ easts mesh s k
run_entry mesh s n k l = get_or-map-range_with_len (easts mesh s) 0 n k k 0 l (omega arith)

-- What begins at the first dart of a use.
pub record IsUse (mesh : HalfEdges) (cut : Cut) (node : ℕ → Bool) (darts : List ℕ) (forward : Bool) (d : ℕ) : Type
    0 where
  pub run : IsRun mesh cut node d (length darts)
  pub lies : (o : ℕ) → o < length darts → LiesAt mesh darts forward o (easts mesh d o)

module _ (mesh : HalfEdges) (laws : IsQuadManifold mesh) (cut : Cut) (full : IsCut mesh cut) (node : ℕ
    → Bool) (nodes : AreNodes mesh cut node) where
  -- A named run is an arc.
  pub named_arc : (s n : ℕ) → IsNamed mesh cut node s n → IsArc mesh cut node (run_list mesh s n)
  named_arc s n named =
      let first = run_entry mesh s n 0 named.run.some in
      record {
        run = rw (first, run_long mesh s n) named.run;
        each = λ k l. let lk : k < n = omega (arith, run_long mesh s n) in
            cc (run_entry mesh s n k lk);
        named = λ k t l tw. let lk : k < n = omega (arith, run_long mesh s n) in
            named.named k t lk (cc (run_entry mesh s n k lk));
      }

  -- A use is a run, along the arc or along its twins.
  pub use_run : (darts : List ℕ) (forward : Bool) (d : ℕ) → IsArc mesh cut node darts → LiesAt mesh darts forward 0 d
      → IsUse mesh cut node darts forward d
  use_run darts true d arc at = record {
    run = rw at arc.run;
    lies = λ o l. ap (λ x. easts mesh x o) at ∙ sym (arc.each o l);
  }
  use_run darts false d arc at =
      let last = ap mesh.twin (sym (arc.each (length darts - 1) (omega arith)))
      ∙ (ap (λ x. mesh.twin (get_or darts x 0)) (omega arith) ∙ at) in
      let (r, back) = back_run _ laws _ full _ nodes _ _ arc.run _ d (omega arith) last in
      let e : r ≡ d = cc (back.twin (length darts - 1) 0 (omega arith), last) in
      record {
        run = rw e at back.run;
        lies = λ o l. ap mesh.twin (arc.each (length darts - 1 - o) (omega arith))
            ∙ (back.twin (length darts - 1 - o) o (omega arith) ∙ ap (λ x. Some (easts mesh x o)) e);
      }

  -- A run is named, or its reverse is.
  search : (s n m : ℕ) → m ≤ n → ((k : ℕ) × (t : ℕ) × (k < n) × (mesh.twin (easts mesh s k) ≡ Some t)
      × (t ≤ run_name mesh s n)) ⊎ ((k t : ℕ) → k < m → mesh.twin (easts mesh s k) ≡ Some t → run_name mesh s n < t)
  search s n zero h = inr (λ k t l. absurd (omega arith))
  search s n (suc m) h = elim (search s n m (omega arith)) [
    | inl found ↦ inl found
    | inr none ↦ elim (none_or (mesh.twin (easts mesh s m))) [
      | inl is ↦ inr (λ k t l tw.
          elim (cases_eq k m) [ inl e ↦ absurd (cc (e, is, tw)) | inr ne ↦ none k t (omega arith) tw ])
      | inr (u, is) ↦ elim (cases_lt (run_name mesh s n) u) [
        | inl less ↦ inr (λ k t l tw. elim (cases_eq k m) [
          | inl e ↦ let same : u ≡ t = cc (e, is, tw) in omega arith
          | inr ne ↦ none k t (omega arith) tw
        ])
        | inr more ↦ inl (m, u, omega arith, is, more)
      ]
    ]
  ]

  pub named_or_back : (s n : ℕ) → IsRun mesh cut node s n → IsNamed mesh cut node s n
      ⊎ ((r : ℕ) × IsBack mesh cut node s n r × IsNamed mesh cut node r n)
  named_or_back s n run = elim (search s n n (omega arith)) [
    | inr all ↦ inl (record { run = run; named = all })
    | inl (k, t, l, tw, low) ↦
        let (r, back) = back_run mesh laws cut full node nodes s n run k t l tw in
        -- The least of the twins is at most t, and t is at most each dart of s.
        let place : k + suc (n - suc k) ≡ n = omega arith in
        let same : t ≡ easts mesh r (n - suc k) = cc (tw, back.twin k (n - suc k) place) in
        let least : run_name mesh r n ≤ t = omega (
          arith,
          least_high (run_list mesh r n) (n - suc k) (omega (arith, run_long mesh r n)),
          run_entry mesh r n (n - suc k) (omega arith),
        ) in
        -- A twin of a twin is a dart of s, and no dart of s is a twin.
        inr (
          r,
          back,
          record {
            run = back.run;
            named = λ j u lj twu. elim (cases_lt (run_name mesh r n) u) [
              | inl less ↦ less
              | inr more ↦
                  let there : u ≡ easts mesh s (n - suc j) = cc (
                    twu,
                    laws.twin_twin (easts mesh s (n - suc j))
                        (easts mesh r j) (run_low mesh laws cut full node nodes s n run (n - suc j) (omega arith))
                        (back.twin (n - suc j) j (omega arith)),
                  ) in
                  let above : run_name mesh s n ≤ u = omega (
                    arith,
                    least_high (run_list mesh s n) (n - suc j) (omega (arith, run_long mesh s n)),
                    run_entry mesh s n (n - suc j) (omega arith),
                  ) in
                  let e : t ≡ easts mesh s (n - suc j) = omega arith in
                  absurd (no_mirror mesh laws cut full node nodes s n k (n - suc j) run l (omega arith) (cc (tw, e)))
            ];
          },
        )
  ]

  -- Named runs with one name are one.
  pub same_named : (s n r m : ℕ) → IsNamed mesh cut node s n → IsNamed mesh cut node r m
      → run_name mesh s n ≡ run_name mesh r m → (s ≡ r) × (n ≡ m)
  same_named s n r m one two e =
      let (k, k_low, ek) = least_there (run_list mesh s n) (omega (arith, run_long mesh s n, one.run.some)) in
      let (j, j_low, ej) = least_there (run_list mesh r m) (omega (arith, run_long mesh r m, two.run.some)) in
      let lk : k < n = omega (arith, run_long mesh s n) in
      let lj : j < m = omega (arith, run_long mesh r m) in
      let same = sym (run_entry mesh s n k lk) ∙ (cc (ek, e, ej, run_entry mesh r m j lj)) in
      let start = (same_place mesh laws cut full node nodes s n r m one.run two.run k j lk lj same).0 in
      (start, same_length mesh laws cut full node nodes s n m one.run (rw start two.run))
