-- The darts of a graph are darts: they come in pairs and begin at vertices.
use Rattle.std.proofs.Common.{rules, ◌≡◌, ◌≢◌, ℕ, ◌+◌, ◌-◌, ◌*◌, ◌/◌, ◌%◌, eqb, refl, ◌∙◌, ap, arith, ◌<◌, ◌≤◌, Bool}
use Rattle.std.proofs.Common.{cond, List, [], ◌∷◌, map, length, ℤ, pos, ◌*ℤ◌, ◌≤ℤ◌, inl, inr}
use Rattle.std.proofs.lemmas.Bool.{cond-true, cond-false, eq-eqb, ne_eqb, cases_eq, cases_lt}
use Rattle.std.proofs.lemmas.Int.{ints}
use Rattle.def_matching.specs.Matching.{WeightedGraph, IsGraph, edge_at, ends_at, IsPerfect, matching_cost}
use Rattle.def_matching.specs.{Dual.crosses, declared.weighted.WEdge.WEdge}
use Rattle.def_forest.specs.{Darts.AreDarts, Darts.darts_of, Darts.other_dart, Darts.far, Forests.Forest}
use Rattle.def_forest.specs.{Forests.weight_between, Forests.dual_sum_of, Valid.IsNested, Valid.IsFeasible}
use Rattle.def_math.specs.{Counts.count, Increasing.IsIncreasing, Sums.total}
use Rattle.qm_dual.proofs.Weak.{at_least_once, leaving_high, odd_leaves, chosen_below}
use Rattle.{sum_laws.proofs.Sums.total_below_le, sum_laws.proofs.Sums.two_orders, forest_laws.proofs.Odds.odd_blossom}

-- The twin of a dart by its last bit.
pub twin_even : (d : ℕ) → d % 2 ≡ 0 → other_dart d ≡ d + 1
twin_even d e = cond-true (eqb (d % 2) 0) (d + 1) (d - 1) (eq-eqb (d % 2) 0 e)

pub twin_odd : (d : ℕ) → d % 2 ≢ 0 → other_dart d ≡ d - 1
twin_odd d ne = cond-false (eqb (d % 2) 0) (d + 1) (d - 1) (ne_eqb (d % 2) 0 ne)

pub near_even : (g : WeightedGraph) (d k : ℕ) → d ≡ 2 * k → (darts_of g).near d ≡ (edge_at g k).u
near_even g d k e = grind arith

pub near_odd : (g : WeightedGraph) (d k : ℕ) → d ≡ 2 * k + 1 → (darts_of g).near d ≡ (edge_at g k).v
near_odd g d k e = grind arith

-- An edge's first dart goes from its one end to the other.
pub dart_near : (g : WeightedGraph) (k : ℕ) → (darts_of g).near (2 * k) ≡ (edge_at g k).u
dart_near g k = near_even g (2 * k) k refl

pub dart_far : (g : WeightedGraph) (k : ℕ) → far (darts_of g) (2 * k) ≡ (edge_at g k).v
dart_far g k = ap (darts_of g).near (twin_even (2 * k) (omega arith)) ∙ near_odd g (2 * k + 1) k refl

pub dart_cost : (g : WeightedGraph) (k : ℕ) → (darts_of g).cost (2 * k) ≡ (edge_at g k).cost
dart_cost g k = let half : (2 * k) / 2 ≡ k = omega arith in ap (λ j. (edge_at g j).cost) half

pub are_darts : {g : WeightedGraph} → IsGraph g → AreDarts (darts_of g)
are_darts is = grind (arith, is.left, is.right)

-- The dual of a valid forest bounds each perfect matching.

-- A test of two numbers, in either order.
pub eqb_order : (a b : ℕ) → eqb a b ≡ eqb b a
eqb_order a b = grind arith

-- A number that counts just once along a list is the sum.
once_sum : (s : ℕ → Bool) (z : ℤ) (es : List WEdge) → count (λ (e : WEdge). cond (crosses s e) 1 0) es ≡ 0
    → total (λ (e : WEdge). cond (crosses s e) z (pos 0)) es ≡ pos 0
once_sum s z [] none = refl
once_sum s z (e ∷ es) none = grind (arith, ints, once_sum s z es)

pub just_once : (s : ℕ → Bool) (z : ℤ) (es : List WEdge) → count (λ (e : WEdge). cond (crosses s e) 1 0) es ≡ 1
    → total (λ (e : WEdge). cond (crosses s e) z (pos 0)) es ≡ z
just_once s z [] one = absurd (omega arith)
just_once s z (e ∷ es) one = grind (arith, ints, just_once s z es, once_sum s z es)

module _ {g : WeightedGraph} (is : IsGraph g) {f : Forest} (vertices : g.n ≤ f.size)
    (nested : IsNested (darts_of g) f) where
  -- The edges that leave a vertex end there.
  counts_vertex : (v low : ℕ) (m : List ℕ) → v < g.n → IsIncreasing low (length g.edges) m
      → count (λ (e : WEdge). cond (crosses (f.holds v) e) 1 0) (map (edge_at g) m)
      ≡ count (ends_at v) (map (edge_at g) m)
  counts_vertex v low [] lv increasing = refl
  counts_vertex v low (k ∷ ks) lv increasing =
      search (rules, counts_vertex v (k + 1) ks lv increasing.2)

  module _ (feasible : IsFeasible (darts_of g) f) where
    loads_low : (low : ℕ) (m : List ℕ) → IsIncreasing low (length g.edges) m
        → total (λ (e : WEdge). weight_between f e.u e.v) (map (edge_at g) m) ≤ℤ (pos 2 *ℤ matching_cost g m)
    loads_low low [] increasing = omega (arith, ints)
    loads_low low (k ∷ ks) increasing =
        let edge = rw (dart_near g k, dart_far g k, dart_cost g k) at (feasible.darts (2 * k) (omega arith)) in
        omega (arith, ints, loads_low (k + 1) ks increasing.2)

    -- Twice the cost of a perfect matching is at least the sum.
    pub sum_bounds : {m : List ℕ} → IsPerfect g m → dual_sum_of f ≤ℤ (pos 2 *ℤ matching_cost g m)
    sum_bounds {m} perfect =
        let es = map (edge_at g) m in
        let adds = λ (b : ℕ) (e : WEdge). cond (crosses (f.holds b) e) (f.weight b) (pos 0) in
        let loads = loads_low 0 m perfect.increasing in
        let orders = two_orders adds f.size es in
        let below = total_below_le f.weight (λ b. total (adds b) es) f.size (λ b l. elim (cases_lt b g.n) [
          | inl low ↦ (let once = counts_vertex b 0 m low perfect.increasing ∙ perfect.once b low in
              omega (arith, ints, just_once (f.holds b) (f.weight b) es once))
          | inr high ↦ elim (cases_eq (f.nest.parts b) 0) [
            | inl none ↦ (let zero = nested.weightless b high none in
                omega (arith, ints, leaving_high (f.holds b) (f.weight b) es (feasible.sets b high l)))
            | inr live ↦ at_least_once (f.holds b) (f.weight b) es (feasible.sets b high l)
                (odd_leaves (f.holds b) g.n es (chosen_below g is 0 m perfect.increasing) perfect.once
                (odd_blossom (are_darts is) nested b (inr (high, live))))
          ]
        ]) in
        omega (arith, ints)
