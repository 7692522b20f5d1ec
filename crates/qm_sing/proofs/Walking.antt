-- Walks along runs: the step back undoes the step onward, and a walk ends or comes back to its start.
use Rattle.std.proofs.Common.{rules, ◌≡◌, ◌≢◌, ℕ, zero, suc, ◌<◌, ◌≤◌, Bool, true, cond, Option, Some, None, option_map}
use Rattle.std.proofs.Common.{List, map, ◌+◌, length, get_or, set, sym, ap, ◌∙◌, refl, add-one, arith}
use Rattle.def_mesh.specs.Darts.{darts, next_of, prev_of, twin_of}
use Rattle.qm_sing.specs.Walks.{AreTold, Goes, StaysAway, leader, or_stay, walked}
use Rattle.std.proofs.lemmas.{Option.same_Some, Bool.cases_eq, List.get_or-set_same, List.get_or-set_other}
use Rattle.std.proofs.lemmas.{List.length-map, List.FromFn.length-range_with_len, List.FromFn.get_or-map-range_with_len}
use Rattle.{def_mesh.specs.HalfEdges.IsQuadManifold, mesh_laws.proofs.Chains.manifold_law, def_runs.specs.Runs.follower}
use Rattle.{def_mesh.specs.HalfEdges.half_edges, def_mesh.specs.Manifold.IsManifold, cut_laws.proofs.Pigeon.comes_back}
use Rattle.{std.specs.List.range_with_len, def_runs.specs.Runs.HasDart, def_mesh.specs.Faces.Faces}

-- A step that leads from at most one number below n to each, and to numbers below n.
pub record IsStep (step : ℕ → Option ℕ) (n : ℕ) : Type 0 where
  pub low : (x z : ℕ) → x < n → step x ≡ Some z → z < n
  pub once : (x y z : ℕ) → x < n → y < n → step x ≡ Some z → step y ≡ Some z → x ≡ y

-- What a chosen and mapped option holds.
chosen : (p : Bool) (g : ℕ → ℕ) (o : Option ℕ) (e : ℕ) → cond p (option_map g o) None ≡ Some e → (p ≡ true) × (t : ℕ)
    × (o ≡ Some t) × (g t ≡ e)
chosen p g h1 = search rules

module _ {faces : Faces} (m : IsManifold faces) where
  laws : IsQuadManifold (half_edges faces)
  laws = manifold_law faces m

  -- Each of two darts leads to the other.
  pub back_of : (d e : ℕ) → d < darts faces → follower faces d ≡ Some e → leader faces e ≡ Some d
  back_of d e l is =
      let (on, t, w, s) = chosen _ next_of (twin_of faces (next_of d)) e is in
      let low = laws.next_low d l in
      let ends = (laws.twin_ends (next_of d) t low w).1 in
      rw (← s, laws.prev_next t, laws.twin_twin (next_of d) t low w, ends, on, laws.prev_next d) refl

  pub on_from : (e d : ℕ) → e < darts faces → leader faces e ≡ Some d → follower faces d ≡ Some e
  on_from e d l is =
      let (on, t, w, s) = chosen _ prev_of (twin_of faces (prev_of e)) d is in
      search (rules, laws.twin_ends (prev_of e) t, laws.next_prev t, laws.twin_twin (prev_of e) t, laws.next_prev e)

  -- At most one dart is followed, and at most one leads.
  pub follows : IsStep (follower faces) (darts faces)
  follows = record {
    low = λ d e l is. let (on, t, w, s) = chosen _ next_of (twin_of faces (next_of d)) e is in
        rw (← s) (laws.next_low t (laws.twin_low (next_of d) t (laws.next_low d l) w));
    once = λ x y z lx ly ex ey. same_Some x y (sym (back_of x z lx ex) ∙ back_of y z ly ey);
  }

  pub leads : IsStep (leader faces) (darts faces)
  leads = record {
    low = λ e d l is. let (on, t, w, s) = chosen _ prev_of (twin_of faces (prev_of e)) d is in
        rw (← s) (laws.prev_low t (laws.twin_low (prev_of e) t (laws.prev_low e l) w));
    once = λ x y z lx ly ex ey. same_Some x y (sym (on_from x z lx ex) ∙ on_from y z ly ey);
  }

-- A walk of so many steps from d, which has not met d again, stands at this dart.
pub record IsWalk (step : ℕ → Option ℕ) (n d many dart : ℕ) : Type 0 where
  pub at : dart ≡ walked step d many
  pub low : dart < n
  pub goes : Goes step d many
  pub away : StaysAway step d many

-- A walk by such a step.
module _ {step : ℕ → Option ℕ} {n : ℕ} (one : IsStep step n) (d : ℕ) (d_low : d < n) where
  pub walk_low : (many : ℕ) → Goes step d many → (k : ℕ) → k ≤ many → walked step d k < n
  walk_low many g zero l = d_low
  walk_low many g (suc k) l = search (rules, walk_low many g k (omega arith))

  pub walk_on : {many dart e : ℕ} → IsWalk step n d many dart → step dart ≡ Some e → e ≢ d
      → IsWalk step n d (many + 1) e
  walk_on {many} {dart} {e} w is ne = search rules

  -- Two places that lead to one are one.
  led_once : (many : ℕ) → Goes step d many → (i j : ℕ) → i < many → j < many
      → walked step d (suc i) ≡ walked step d (suc j) → walked step d i ≡ walked step d j
  led_once many g i j l h e = search (rules, walk_low)

  -- Two places of a walk that meets its start no more differ.
  pub places_differ : (many : ℕ) → Goes step d many → StaysAway step d many → (i j : ℕ) → i < j → j ≤ many
      → walked step d i ≢ walked step d j
  places_differ many g a i zero l h e = omega arith
  places_differ many g a zero (suc j) l h e = a j (omega arith) (sym e)
  places_differ many g a (suc i) (suc j) l h e = places_differ many g a i j (omega arith) (omega arith)
      (led_once many g i j (omega arith) (omega arith) e)

  -- No walk makes as many steps as there are numbers without meeting its start.
  pub not_endless : {many dart : ℕ} → IsWalk step n d many dart → many ≡ n → ⊥
  not_endless {many} w all = grind (arith, comes_back n (walked step d), walk_low many w.goes)

-- The dart where a walk along a run stands is told.
pub told_here : {faces : Faces} → IsManifold faces → {first r place dart : ℕ} {run_old run at_old at : List ℕ}
    → first < darts faces → IsWalk (follower faces) (darts faces) first place dart → length run ≡ darts faces
    → length at ≡ darts faces → AreTold (walked (follower faces) first) place r run_old run at_old at
    → AreTold (walked (follower faces) first) (suc place) r run_old (set run dart r) at_old (set at dart place)
told_here {faces} m {first} {r} {place} {dart} {run} {at} low w long_run long_at old = record {
  told = λ k l.
      let apart = places_differ (follows m) first low place w.goes w.away k place in
      let there = walked (follower faces) first k in
      let here = get_or-set_same run dart r 0 in
      let place_here = get_or-set_same at dart place 0 in
      grind (arith, cases_eq k place, here, place_here, same_at there, old.told k, apart, w.at, w.low, long_run);
  kept = λ e other. grind (arith, same_at e, other place, old.kept e (λ k l. other k (omega arith)), w.at);
}
  where
    same_at : (e : ℕ) → e ≢ dart → (get_or (set run dart r) e 0 ≡ get_or run e 0)
        × (get_or (set at dart place) e 0 ≡ get_or at e 0)
    same_at e ne = search (rules, get_or-set_other)

-- The darts of a walk, as a list.
abbrev pub walk_list : (walk : ℕ → ℕ) (last : ℕ) → List ℕ
walk_list walk last = map walk (range_with_len 0 (suc last))

pub walk_long : (walk : ℕ → ℕ) (last : ℕ) → length (walk_list walk last) ≡ suc last
walk_long walk last = length-map (range_with_len 0 (suc last)) walk ∙ length-range_with_len 0 (suc last)

pub walk_at : (walk : ℕ → ℕ) (last k : ℕ) → k < suc last → get_or (walk_list walk last) k 0 ≡ walk k
walk_at walk last k l = get_or-map-range_with_len walk 0 (suc last) k k 0 l (omega arith)

-- A dart of the walk stands in it.
pub holds_at : (walk : ℕ → ℕ) (last k d : ℕ) → k < suc last → walk k ≡ d → HasDart (walk_list walk last) d
holds_at walk last k d l e = (k, omega (arith, l, walk_long walk last), walk_at walk last k l ∙ e)
