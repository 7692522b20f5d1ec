-- How far the sum of the weights rises, and so how large keys and weights are.
use Rattle.std.proofs.Common.{rules, ◌≡◌, ℕ, zero, suc, ◌+◌, ◌-◌, ◌*◌, ◌/◌, ap, ◌∙◌, ◌<◌, ◌≤◌, List, [], ◌∷◌, arith}
use Rattle.std.proofs.Common.{length, map, Option, Some, ℤ, pos, ◌+ℤ◌, ◌*ℤ◌, ◌≤ℤ◌, refl, inl, inr}
use Rattle.std.{proofs.lemmas.Int.ints, proofs.lemmas.Bool.cases_lt, specs.Int.RustNames.unsigned_abs}
use Rattle.def_math.specs.{Increasing.IsIncreasing, Sums.total, Sums.total_below}
use Rattle.qm_dual.proofs.{Gathered.ends_once, Gathered.total_below_small, Weak.chosen_below}
use Rattle.def_matching.specs.Matching.{WeightedGraph, IsGraph, IsCheap, IsPerfect, edge_at, matching_cost}
use Rattle.def_matching.specs.{declared.limits.TheConstants.MAX_PRODUCT, declared.weighted.WEdge.WEdge}
use Rattle.def_forest.specs.{Darts.darts_of, Forests.Forest, Forests.dual_sum_of, Steps.shifted}
use Rattle.def_forest.specs.{Valid.IsFeasible, Valid.IsValid}
use Rattle.forest_laws.proofs.{Bounds.sum_bounds, Bounds.are_darts, Shifts.shift_valid, Shifts.sum_rises}
use Rattle.search_laws.{specs.Keys.true_key, specs.Searches.IsInRange, specs.Searches.first_limit}
use Rattle.search_laws.{specs.Searches.risen_limit, proofs.Keys.lawful}

-- The greatest of some numbers, where the product of each with another is small.
pub greatest_of : (f : ℕ → ℕ) (n limit k : ℕ) → ((i : ℕ) → i < k → n * f i ≤ limit) → (most : ℕ)
    × ((i : ℕ) → i < k → f i ≤ most) × (n * most ≤ limit)
greatest_of f n limit zero few = (0, (λ i l. absurd (omega (arith, l))), omega arith)
greatest_of f n limit (suc k) few = let w = greatest_of f n limit k (λ i l. few i (omega arith)) in
    let each : (m : ℕ) → w.0 ≤ m → f k ≤ m → (i : ℕ) → i < suc k → f i ≤ m = λ m lw lk i l. grind (arith, w.1 i) in
    elim (cases_lt (f k) w.0) [ inl h ↦ (w.0, each w.0 (omega arith) (omega arith), w.2) | inr h ↦ search rules ]

-- A number that bounds all costs.
pub greatest : (g : WeightedGraph) → IsCheap g → (most : ℕ)
    × ((e : ℕ) → e < length g.edges → unsigned_abs (edge_at g e).cost ≤ most) × (g.n * most ≤ MAX_PRODUCT)
greatest g cheap = greatest_of (λ e. unsigned_abs (edge_at g e).cost) g.n MAX_PRODUCT (length g.edges) cheap

-- A sum of which only the first terms are not 0.
first_terms : (f : ℕ → ℤ) (n k : ℕ) → ((b : ℕ) → n ≤ b → f b ≡ pos 0) → total_below f (n + k) ≡ total_below f n
first_terms f n zero none = let e : n + 0 ≡ n = omega arith in ap (total_below f) e
first_terms f n (suc k) none = let e : n + suc k ≡ suc (n + k) = omega arith in search (rules, first_terms f n k none)

-- The first weights are in range.
pub range_begun : (n first : ℕ) (f : Forest) → f.size ≡ n + n / 2 → ((b : ℕ) → n ≤ b → f.weight b ≡ pos 0)
    → ((b : ℕ) → unsigned_abs (f.weight b) ≤ first) → IsInRange n first f 0
range_begun n first f size sets small = record {
  start = dual_sum_of f;
  start_high = omega (arith, ints, sum_is, total_below_small f.weight first n (λ b l. small b));
  sum = omega (arith, ints);
  weights = λ b. omega (arith, small b);
}
  where
    sum_is : dual_sum_of f ≡ total_below f.weight n
    sum_is = ap (total_below f.weight) size ∙ first_terms f.weight n (n / 2) sets

costs_low : (g : WeightedGraph) (most low : ℕ) (m : List ℕ)
    → ((e : ℕ) → e < length g.edges → unsigned_abs (edge_at g e).cost ≤ most) → IsIncreasing low (length g.edges) m
    → (pos 2 *ℤ matching_cost g m) ≤ℤ total (λ (e : WEdge). pos most +ℤ pos most) (map (edge_at g) m)
costs_low g most low [] each increasing = omega (arith, ints)
costs_low g most low (k ∷ ks) each increasing =
    omega (arith, ints, each k increasing.1, costs_low g most (k + 1) ks each increasing.2)

-- Twice the cost of a perfect matching is at most as often a bound of the costs as there are vertices, and small.
pub known_most : {g : WeightedGraph} → IsGraph g → (most : ℕ)
    → ((e : ℕ) → e < length g.edges → unsigned_abs (edge_at g e).cost ≤ most) → {m : List ℕ} → IsPerfect g m
    → (pos 2 *ℤ matching_cost g m) ≤ℤ pos (g.n * most)
known_most {g} is most each {m} perfect =
    let ends = ends_once _ _ (λ v. pos most) _ _ (chosen_below g is 0 m perfect.increasing) perfect.once in
    let small = total_below_small (λ v. pos most) most g.n (λ v l. omega (arith, ints)) in
    omega (arith, ints, costs_low g _ 0 m each perfect.increasing)

pub known_low : {g : WeightedGraph} → IsGraph g → IsCheap g → {m : List ℕ} → IsPerfect g m
    → (pos 2 *ℤ matching_cost g m) ≤ℤ pos MAX_PRODUCT
known_low {g} is cheap perfect = let w = greatest g cheap in omega (arith, ints, known_most is _ w.1 perfect, w.2)

module _ {g : WeightedGraph} (is : IsGraph g) (cheap : IsCheap g) {m : List ℕ} (perfect : IsPerfect g m) {n first : ℕ}
    (limit : n * first ≤ first_limit) (low : first ≤ first_limit) {f : Forest} {risen : ℕ}
    (range : IsInRange n first f risen) where
  -- How far the sum has risen.
  pub risen_low : {root : Option ℕ} → IsValid (darts_of g) f root → risen ≤ risen_limit
  risen_low valid =
      let bound = sum_bounds is valid.outermost.vertices valid.nested valid.feasible perfect in
      omega (arith, ints, bound, range.sum, range.start_high, limit, known_low is cheap perfect)

  -- What the shifts leave in range.
  pub small_weights : {root : Option ℕ} → IsValid (darts_of g) f root → (b : ℕ)
      → unsigned_abs (f.weight b) ≤ 6 * MAX_PRODUCT
  small_weights valid b = omega (arith, low, range.weights b, risen_low valid)

  pub weights_most : {root : Option ℕ} → IsValid (darts_of g) f root → (most : ℕ)
      → ((e : ℕ) → e < length g.edges → unsigned_abs (edge_at g e).cost ≤ most) → (b : ℕ)
      → unsigned_abs (f.weight b) ≤ first + (n * first + g.n * most)
  weights_most valid most each b =
      let bound = sum_bounds is valid.outermost.vertices valid.nested valid.feasible perfect in
      omega (arith, ints, bound, range.sum, range.start_high, known_most is most each perfect, range.weights b)

  module _ {r : ℕ} (valid : IsValid (darts_of g) f (Some r)) where
    -- A shift.
    pub range_shifted : (x : ℕ) → IsInRange n first (shifted f (pos x)) (risen + x)
    range_shifted x = let rises = sum_rises (are_darts is) valid (valid.tree r refl) (pos x) in search rules

    module _ (most : ℕ) (sets : length g.edges + (f.size - g.n) ≤ most) where
      -- How far a lawful shift goes.
      pub reach_low : (x : ℕ) → IsFeasible (darts_of g) (shifted f (pos x)) → risen + x ≤ risen_limit
      reach_low x feasible =
          let then = shift_valid (are_darts is) valid (pos x) feasible in
          let bound = sum_bounds is then.outermost.vertices then.nested then.feasible perfect in
          let rises = sum_rises (are_darts is) valid (valid.tree r refl) (pos x) in
          omega (arith, ints, range.sum, range.start_high, limit, known_low is cheap perfect)

      -- Something happens soon: the least key is small.
      pub key_soon : (key : ℕ) → ((k : ℕ) → k < most → key ≤ true_key g f risen k) → key ≤ risen_limit
      key_soon key low = elim (cases_lt risen_limit key) [
        | inr l ↦ l
        | inl h ↦ (let x = risen_limit + 1 - risen in
            let e : risen + x ≡ risen_limit + 1 = omega (arith, risen_low valid) in
            absurd (omega (
              arith,
              reach_low x (lawful g is f valid.outermost valid.feasible risen x _ sets (λ k l. omega (arith, low k l))),
            )))
      ]
