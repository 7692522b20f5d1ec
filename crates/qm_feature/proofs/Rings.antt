-- Closed runs whose edges are all marked, told by the runs of a mesh: a walk straight on that is as long as there are
-- darts goes all round.
use Rattle.std.proofs.Common.{◌≡◌, ℕ, zero, suc, ◌+◌, ◌-◌, ◌<◌, ◌≤◌, Bool, true, false, List, length, get_or, Option}
use Rattle.std.proofs.Common.{Some, None, sym, ap, ◌∙◌, refl, inl, inr, arith, eqb, ◌&&◌, rules, ◌⊎◌, ◌≢◌, min, set}
use Rattle.std.proofs.lemmas.Option.{same_Some}
use Rattle.std.proofs.lemmas.Bool.{cases_lt, cases_order, eq-eqb, eqb-true, le-ltb, and_from, and_parts, false≢true}
use Rattle.std.proofs.lemmas.Bool.{true_from_ne_false, cases_eq, Decides.nat_tests}
use Rattle.std.proofs.lemmas.List.{get_or-map, length-map, get_or-set_same, get_or-set_other, length-set}
use Rattle.{std.specs.List.list_any, def_mesh.specs.Faces.Faces, def_mesh.specs.Manifold.IsManifold}
use Rattle.def_mesh.specs.{Vertices.fan_of, Vertices.vertex_count, Darts.darts, Darts.from_of, Darts.all_darts}
use Rattle.def_runs.specs.Runs.{AreRuns, HasDart, IsLongestRun, first_dart, follower, is_closed, is_dart, last_dart}
use Rattle.def_runs.specs.{Runs.nth_run, declared.RunTable.RunTable}
use Rattle.motion_laws.proofs.Among.{among_range, any_at, any_where, cases_Option, range_among}
use Rattle.motion_laws.proofs.Steps.{straight_same}
use Rattle.qm_feature.specs.Rings.{run_at, AreLeast, AreWhole, is_home, least_at}
use Rattle.{def_cut.specs.FullCut.is_on, def_cut.specs.Traced.terrain_of, def_feature.specs.Marks.goes_round}
use Rattle.{def_feature.specs.Marks.is_least_in_ring, feature_laws.proofs.Conforming.follows}
use Rattle.{feature_laws.proofs.Breaks.from_fan, feature_laws.proofs.Breaks.in_fan, cut_laws.proofs.Pigeon.no_more}
use Rattle.{site_laws.proofs.Sites.terrain, sum_laws.proofs.Tests.same_test, mesh_laws.proofs.Flood.all_below}

-- The run is closed, all its darts are marked, and none leaves a vertex below v.
pub record IsRing (faces : Faces) (runs run : List ℕ) (marks : List Bool) (v r : ℕ) : Type 0 where
  pub closed : is_closed faces run ≡ true
  pub each : (d : ℕ) → d < darts faces → run_at runs d ≡ r → (is_on marks d ≡ true) × (v ≤ from_of faces d)

-- The dart that was found.
found_dart : (o : Option ℕ) (e : ℕ) → is_dart o e ≡ true → o ≡ Some e
found_dart None e y = absurd (false≢true y)
found_dart (Some x) e y = ap Some (eqb-true x e y)

module _ {faces : Faces} (m : IsManifold faces) where
  -- One dart follows one dart alone.
  one_before : (d e x : ℕ) → d < darts faces → e < darts faces → follower faces d ≡ Some x → follower faces e ≡ Some x
      → d ≡ e
  one_before d e x ld le f g =
      straight_same (terrain_of faces) (terrain faces m) d e x ld le (follows faces d x f).1 (follows faces e x g).1

  -- Two longest runs with a dart in common have the same darts.
  module _ {p q : List ℕ} (long_p : IsLongestRun faces p) (long_q : IsLongestRun faces q) where
    after_held : (i : ℕ) → suc i < length p → HasDart q (get_or p i 0) → HasDart q (get_or p (suc i) 0)
    after_held i l (j, h, e) =
        let next = ap (follower faces) e ∙ long_p.straight i l in
        elim (cases_lt (suc j) (length q)) [
          | inl less ↦ (suc j, less, same_Some _ _ (sym (long_q.straight j less) ∙ next))
          | inr more ↦ let last : length q - 1 ≡ j = omega arith in
              long_q.ends (get_or p (suc i) 0) (ap (λ k. follower faces (get_or q k 0)) last ∙ next)
        ]

    before_held : (i : ℕ) → suc i < length p → HasDart q (get_or p (suc i) 0) → HasDart q (get_or p i 0)
    before_held i l (zero, h, e) =
        long_q.begins (get_or p i 0) (long_p.low i (omega (arith, l))) (long_p.straight i l ∙ ap Some (sym e))
    before_held i l (suc j, h, e) = (
      j,
      omega (arith, h),
      one_before (get_or q j 0) (get_or p i 0) (get_or q (suc j) 0) (long_q.low j (omega (arith, h)))
          (long_p.low i (omega (arith, l))) (long_q.straight j h) (long_p.straight i l ∙ ap Some (sym e)),
    )

    -- Back to the first dart, and on from it.
    to_first : (i : ℕ) → i < length p → HasDart q (get_or p i 0) → HasDart q (get_or p 0 0)
    to_first zero l h = h
    to_first (suc i) l h = to_first i (omega (arith, l)) (before_held i l h)

    from_first : (k : ℕ) → k < length p → HasDart q (get_or p 0 0) → HasDart q (get_or p k 0)
    from_first zero l h = h
    from_first (suc k) l h = after_held k l (from_first k (omega (arith, l)) h)

  module _ {table : RunTable} (are : AreRuns faces table) where
    -- The run of a dart, and its place there.
    abbrev run_of : (d : ℕ) → ℕ
    run_of d = run_at table.run.items d

    abbrev place_of : (d : ℕ) → ℕ
    place_of d = get_or table.at.items d 0

    clash : (q r i j : ℕ) → q < r → r < length are.lists → i < length (nth_run are.lists q)
        → j < length (nth_run are.lists r) → get_or (nth_run are.lists q) i 0 ≡ get_or (nth_run are.lists r) j 0 → ⊥
    clash q r i j less l li lj e =
        let (k, lk, below) = are.increasing q r less l in
        let long = are.runs q (omega (arith, less, l)) in
        let h = from_first long (are.runs r l) k lk (to_first long (are.runs r l) i li (j, lj, sym e)) in
        absurd (omega (arith, h.2, below h.0 h.1))

    -- A dart stands in one run alone.
    one_run : (r k : ℕ) → r < length are.lists → k < length (nth_run are.lists r)
        → run_of (get_or (nth_run are.lists r) k 0) ≡ r
    one_run r k l h =
        let d = get_or (nth_run are.lists r) k 0 in
        let low = (are.runs r l).low k h in
        elim (cases_order (run_of d) r) [
          | inl s ↦ s
          | inr (inl less) ↦ absurd (clash (run_of d) r (place_of d) k less l (are.at_low d low) h (are.stands d low))
          | inr (inr more) ↦ absurd (clash r (run_of d) k (place_of d) more (are.run_low d low) h (are.at_low d low)
              (sym (are.stands d low)))
        ]

    module _ (marks : List Bool) (v r : ℕ) (l : r < length are.lists) where
      abbrev run : List ℕ
      run = nth_run are.lists r

      abbrev dart : (k : ℕ) → ℕ
      dart k = get_or run k 0

      -- A walk of n darts goes round.
      abbrev Goes : (n d : ℕ) → Type 0
      Goes n d = goes_round faces marks v n d ≡ true

      long : IsLongestRun faces run
      long = are.runs r l

      next_in : is_closed faces run ≡ true → (k : ℕ) → k < length run → (j : ℕ) × (j < length run)
          × (follower faces (dart k) ≡ Some (dart j))
      next_in closed k h = elim (cases_lt (suc k) (length run)) [
        | inl less ↦ (suc k, less, long.straight k less)
        | inr more ↦ let last : length run - 1 ≡ k = omega arith in (
          0,
          long.some,
          ap (λ x. follower faces (dart x)) (sym last)
              ∙ found_dart (follower faces (last_dart run)) (first_dart run) closed,
        )
      ]

      -- A walk in a ring does not end.
      pub round_all : IsRing faces table.run.items (nth_run are.lists r) marks v r → (n k : ℕ)
          → k < length (nth_run are.lists r) → goes_round faces marks v n (get_or (nth_run are.lists r) k 0) ≡ true
      round_all ring zero k h = refl
      round_all ring (suc n) k h =
          let (j, lj, f) = next_in ring.closed k h in
          let here = ring.each (dart k) (long.low k h) (one_run r k l h) in
          rw (f, here.0, le-ltb _ _ here.1) (round_all ring n j lj)

      -- What a walk of one step more says.
      walk_here : (n x : ℕ) → Goes (suc n) x → (is_on marks x ≡ true) × (v ≤ from_of faces x)
      walk_here n x g =
          let p = and_parts (is_on marks x) _ (and_parts _ _ g).0 in
          (p.0, grind (arith, nat_tests, p.1))

      walk_next : (n x : ℕ) → Goes (suc n) x → (y : ℕ) × (follower faces x ≡ Some y) × Goes n y
      walk_next n x g =
          let on : elim (follower faces x) as (λ q. Bool) [ None ↦ false | Some e ↦ goes_round faces marks v n e ]
          ≡ true = (and_parts _ _ g).1 in
          elim (cases_Option (follower faces x)) [
            | inl none ↦ absurd (false≢true (rw none at on))
            | inr (y, is) ↦ (y, is, rw is at on)
          ]

      -- A walk from place p goes along the run.
      along : (n p q k w : ℕ) → p + n ≡ q → w ≡ n + k → q < length run → Goes w (dart p) → Goes k (dart q)
      along zero p q k w is many h g = let s : q ≡ p = omega arith in let t : k ≡ w = omega arith in rw (s, t) g
      along (suc n) p q k zero is many h g = absurd (omega arith)
      along (suc n) p q k (suc w) is many h g =
          let step = walk_next w (dart p) g in
          let same = same_Some _ _ (sym (long.straight p (omega (arith, is, h))) ∙ step.1) in
          along n (suc p) q k w (omega (arith, is)) (omega (arith, many)) h
          (ap (goes_round faces marks v w) same ∙ step.2)

      -- The run is no longer than the mesh.
      few : length run ≤ darts faces
      few = no_more (length run) (darts faces) dart (λ i. i)
          (λ i j li lj e. grind (arith, cases_order i j, long.differ i j, long.differ j i))
          (λ i h. (dart i, long.low i h, refl))

      -- A walk of as many darts as there are goes all round.
      module _ (p : ℕ) (h : p < length (nth_run are.lists r))
          (g : goes_round faces marks v (darts faces) (get_or (nth_run are.lists r) p 0) ≡ true) where
        abbrev last : ℕ
        last = length run - 1

        -- The steps that are left at the last dart.
        abbrev left : ℕ
        left = darts faces - (length run - p)

        to_last : Goes (suc left) (dart last)
        to_last = along (last - p) p last (suc left) (darts faces) (omega (arith, h)) (omega (arith, h, few))
            (omega (arith, h)) g

        end : (y : ℕ) × (follower faces (dart last) ≡ Some y) × Goes left y
        end = walk_next left (dart last) to_last

        -- What follows the last dart is the first.
        first : end.0 ≡ first_dart run
        first = by_place (long.ends end.0 end.1)
          where
            by_place : HasDart run end.0 → end.0 ≡ first_dart run
            by_place (zero, lj, e) = sym e
            by_place (suc j, lj, e) = absurd (long.differ j last (omega (arith, lj)) (omega (arith, lj))
                (one_before _ _ (dart (suc j)) (long.low j (omega (arith, lj))) (long.low last (omega (arith, lj)))
                (long.straight j lj) (end.1 ∙ ap Some (sym e))))

        each : (k : ℕ) → k < length run → (is_on marks (dart k) ≡ true) × (v ≤ from_of faces (dart k))
        each k lk = elim (cases_lt k p) [
          | inl less ↦ walk_here (left - suc k) (dart k) (along k 0 k (suc (left - suc k)) left (omega arith)
              (omega (arith, less, h, few)) lk (ap (goes_round faces marks v left) (sym first) ∙ end.2))
          | inr more ↦ walk_here (darts faces - suc (k - p)) (dart k) (along (k - p) p k
              (suc (darts faces - suc (k - p))) (darts faces) (omega (arith, more)) (omega (arith, more, lk, few)) lk g)
        ]

        pub all_round : IsRing faces table.run.items (nth_run are.lists r) marks v r
        all_round = record {
          closed = ap (λ o. is_dart o (first_dart run)) end.1 ∙ eq-eqb end.0 (first_dart run) first;
          each = λ d low e. rw (← are.stands d low, e) (each (place_of d) (rw e at (are.at_low d low)));
        }

-- The tables of runs tell the least vertices of closed runs whose edges are all marked.

module _ {faces : Faces} (m : IsManifold faces) {table : RunTable} (are : AreRuns faces table) {marks whole : List Bool}
    {least : List ℕ} {none : ℕ} (wholes : AreWhole marks table.run.items table.closed.items whole (darts faces))
    (leasts : AreLeast faces table.run.items least none (darts faces)) (long : length least ≡ length table.closed.items)
    (far : vertex_count faces ≤ none) where
  many : length table.closed.items ≡ length are.lists
  many = ap length are.closes ∙ length-map are.lists (is_closed faces)

  closed_is : (r : ℕ) → r < length are.lists → is_on table.closed.items r ≡ is_closed faces (nth_run are.lists r)
  closed_is r l = search (rules, are.closes, get_or-map)

  abbrev its_run : (d : ℕ) → ℕ
  its_run d = run_at table.run.items d

  -- The run of d is a ring, and d leaves its least vertex.
  abbrev IsRingOf : (d : ℕ) → Type 0
  IsRingOf d = IsRing faces table.run.items (nth_run are.lists (its_run d)) marks (from_of faces d) (its_run d)

  abbrev home : (d : ℕ) → Bool
  home d = is_home faces table.run.items whole least d

  -- A home is the least vertex of a ring,
  ring_of : (d : ℕ) → d < darts faces → home d ≡ true → IsRingOf d
  ring_of d l h =
      let p = and_parts (is_on whole (its_run d)) (eqb (least_at least (its_run d)) (from_of faces d)) h in
      record {
        closed = sym (closed_is (its_run d) (are.run_low d l)) ∙ wholes.kept (its_run d) p.0;
        each = λ e le er. (
          true_from_ne_false (is_on marks e)
              (λ off. false≢true (sym (wholes.off e le off) ∙ (ap (is_on whole) er ∙ p.0))),
          omega (arith, leasts.below e le, ap (least_at least) er, eqb-true _ _ p.1),
        );
      }

  -- and the other way round.
  home_of : (d : ℕ) → d < darts faces → IsRingOf d → home d ≡ true
  home_of d l ring = and_from _ _
      (wholes.on (its_run d) (closed_is (its_run d) (are.run_low d l) ∙ ring.closed) (λ e le er. (ring.each e le er).0))
      (eq-eqb _ _ (elim (leasts.there (its_run d) (omega (arith, are.run_low d l, many, long))) [
        | inl e ↦ absurd (omega (arith, e, leasts.below d l, all_below faces d l, far))
        | inr (e, le, er, fe) ↦ omega (arith, fe, ring.each e le er, leasts.below d l)
      ]))

  pub rings_are : (v : ℕ) → list_any (λ d. eqb (from_of faces d) v && is_home faces table.run.items whole least d)
      (all_darts faces) ≡ is_least_in_ring faces marks v
  rings_are v = same_test _ _
      (λ y. let (d, n, h) = any_where (λ d. eqb (from_of faces d) v && home d) (all_darts faces) y in
      let r = range_among 0 (darts faces) d n in
      let l : d < darts faces = omega (arith, r.1) in
      let p = and_parts (eqb (from_of faces d) v) (home d) h in
      let at = eqb-true (from_of faces d) v p.0 in
      let g = round_all m are marks (from_of faces d) (its_run d) (are.run_low d l) (ring_of d l p.1) (darts faces)
      (get_or table.at.items d 0) (are.at_low d l) in
      any_at (goes_round faces marks v (darts faces)) d (fan_of faces v) (in_fan faces v d l at)
      (rw (are.stands d l, at) at g))
      (λ y. let (d, n, g) = any_where (goes_round faces marks v (darts faces)) (fan_of faces v) y in
      let (l, at) = from_fan faces v d n in
      let ring = all_round m are marks v (its_run d) (are.run_low d l) (get_or table.at.items d 0) (are.at_low d l)
      (ap (goes_round faces marks v (darts faces)) (are.stands d l) ∙ g) in
      any_at (λ x. eqb (from_of faces x) v && home x) d (all_darts faces)
      (among_range 0 (darts faces) d (omega arith) (omega (arith, l)))
      (and_from _ _ (eq-eqb _ _ at) (home_of d l (rw at ring))))

-- One dart more in the tables of runs.

pub least_more : {faces : Faces} {run least new : List ℕ} {none n : ℕ} → AreLeast faces run least none n
    → run_at run n < length least → from_of faces n ≤ none → new ≡ set least (run_at run n)
    (min (least_at least (run_at run n)) (from_of faces n)) → AreLeast faces run new none (n + 1)
least_more {faces} {run} {least} {new} {none} {n} a low less is = record { below = below; there = there }
  where
    here : least_at new (run_at run n) ≡ min (least_at least (run_at run n)) (from_of faces n)
    here = rw is (get_or-set_same least (run_at run n) _ 0 low)

    other : (r : ℕ) → r ≢ run_at run n → least_at new r ≡ least_at least r
    other r ne = rw is (get_or-set_other least (run_at run n) r _ 0 ne)

    below : (d : ℕ) → d < n + 1 → least_at new (run_at run d) ≤ from_of faces d
    below d l =
        grind (arith, cases_eq d n, cases_eq (run_at run d) (run_at run n), here, other (run_at run d), a.below d)

    there : (r : ℕ) → r < length new → (least_at new r ≡ none)
        ⊎ ((d : ℕ) × (d < n + 1) × (run_at run d ≡ r) × (from_of faces d ≡ least_at new r))
    there r l =
        let old = a.there r (omega (arith, ap length is, length-set least (run_at run n))) in
        elim (cases_eq r (run_at run n)) [
          | inl e ↦
              let now : least_at new r ≡ min (least_at least r) (from_of faces n) = rw e here in
              elim (cases_lt (from_of faces n) (least_at least r)) [
                | inl lower ↦ inr (n, omega arith, sym e, omega arith)
                | inr more ↦ elim old [
                  | inl far ↦ inr (n, omega arith, sym e, omega arith)
                  | inr (d, h, at, from) ↦ inr (d, omega arith, at, omega arith)
                ]
              ]
          | inr ne ↦ rw (other r ne) (search (rules, old))
        ]
