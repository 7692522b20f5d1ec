-- The cost of a matching, one edge at a time.
use Rattle.std.proofs.Common.{rules, ◌≡◌, ℕ, ◌+◌, ◌-◌, ◌<◌, ◌≤◌, List, [], ◌∷◌, length, take, ◌+ℤ◌, refl, arith, map}
use Rattle.std.proofs.Common.{get_or, sym, ◌∙◌, ap, zero, suc, ◌*◌, ◌/◌, ◌^◌, None, ℤ, pos, inl, inr, Option, Bool}
use Rattle.std.proofs.{Common.cond, Common.eqb, Math.Nat.mul-le-mul_left, Math.Nat.mul-le-mul_right}
use Rattle.std.proofs.lemmas.{Int.ints, List.map-append, List.take_more, List.get_or_past, Bool.cases_lt}
use Rattle.def_math.specs.{Increasing.IsIncreasing, Counts.count}
use Rattle.def_matching.specs.declared.{weighted.WEdge.WEdge, limits.TheConstants.MAX_PRODUCT}
use Rattle.def_matching.specs.Matching.{WeightedGraph, edge_at, matching_cost, ends_at, IsCheap, IsGraph, IsSmallGraph}
use Rattle.def_matching.specs.Dual.{AreSmall, DualLists, IsSmallDual}
use Rattle.def_forest.specs.Tables.{ForestTables, forest_of, edge_kind, kind_by, slack_of, IsValidFor}
use Rattle.def_forest.specs.{Written.IsDualOf, Needs.AreFeasible, Forests.Forest, Darts.darts_of, Valid.IsValid}
use Rattle.def_forest.specs.Made.{AreAtMost, AreCostsBelow, AreFirst, IsMadeFor, MAX_FIRST}
use Rattle.{def_forest.specs.Steps.rooted, search_laws.specs.Searches.IsInRange, search_laws.specs.Searches.first_limit}
use Rattle.def_forest.specs.declared.kinds.EdgeKind.TheVariants.{Augment, Loose}
use Rattle.def_forest.specs.declared.kinds.Label.{Label, TheVariants.Outer, TheVariants.Outside}
use Rattle.forest_laws.proofs.Grows.{set_here, set_there}
use Rattle.search_laws.proofs.Risen.{greatest, range_begun, small_weights, weights_most}
use Rattle.qm_match.specs.States.{HasPerfect, IsFreeEdge, IsIdle, IsMade, IsReady}
use Rattle.qm_match.specs.{Weights.HasRoom, Weights.HaveRoom, declared.search.Search.Search, Fans.AreFans}
use Rattle.std.specs.{Prelude.slice_index, Prelude.int_lt, Int.RustNames.unsigned_abs}
use Rattle.sum_laws.proofs.Sums.{count_append, total_append}
use Rattle.{qm_forest.proofs.Chosens.increasing_more, qm_initial.specs.declared.initial.TheConstants.MAX_WISH}

-- There are no more increasing numbers than numbers in between.
pub increasing_few : (low high : ℕ) (m : List ℕ) → IsIncreasing low high m → length m ≤ high - low
increasing_few low high [] increasing = omega arith
increasing_few low high (k ∷ ks) increasing = search (rules, increasing_few (k + 1) high ks increasing.2)

-- One edge more.
pub cost_take : (g : WeightedGraph) (m : List ℕ) (i : ℕ) → i < length m → matching_cost g (take (i + 1) m)
    ≡ matching_cost g (take i m) +ℤ (edge_at g (slice_index m i)).cost
cost_take g m i l =
    search (rules, total_append, take_more m i 0 l, map-append (edge_at g) (take i m) (get_or m i 0 ∷ []))

-- Edges that are looked at one after another.

-- An increasing list has any greater bound.
pub increasing_to : (low a b : ℕ) (xs : List ℕ) → a ≤ b → IsIncreasing low a xs → IsIncreasing low b xs
increasing_to low a b [] le increasing = tt
increasing_to low a b (x ∷ xs) le increasing = search (rules, increasing_to (x + 1) a b xs le increasing.2)

module _ (g : WeightedGraph) (xs : List ℕ) (k : ℕ) (low : k < length xs) where
  -- One edge more, which comes after those before.
  pub increasing_on : (next : ℕ) → next ≤ get_or xs k 0 → IsIncreasing 0 next (take k xs)
      → IsIncreasing 0 (get_or xs k 0 + 1) (take (k + 1) xs)
  increasing_on next le increasing = rw (take_more xs k 0 low) (increasing_more 0 (get_or xs k 0) (take k xs)
      (omega arith) (increasing_to 0 next (get_or xs k 0) (take k xs) le increasing))

  pub counts_on : (v : ℕ) → count (ends_at v) (map (edge_at g) (take (k + 1) xs))
      ≡ count (ends_at v) (map (edge_at g) (take k xs)) + ends_at v (edge_at g (get_or xs k 0))
  counts_on v = rw (take_more xs k 0 low, map-append _ _ _) (search (rules, count_append))

-- What a match begins with, and what has come of it.

-- The numbers of an increasing list are below its bound.
pub increasing_low : (low bound : ℕ) (xs : List ℕ) → IsIncreasing low bound xs → (k : ℕ) → k < length xs
    → get_or xs k 0 < bound
increasing_low low bound [] increasing k l = absurd (omega (arith, l))
increasing_low low bound (x ∷ xs) increasing zero l = increasing.1
increasing_low low bound (x ∷ xs) increasing (suc k) l = grind (arith, increasing_low (x + 1) bound xs increasing.2 k)

pub one_of : (n x : ℕ) → 1 ≤ n → x ≤ n * x
one_of n x l = omega (arith, mul-le-mul_right x l)

-- Costs that are cheap are small.
pub cheap_costs : {g : WeightedGraph} → IsGraph g → IsCheap g → AreCostsBelow g (2 ^ 60)
cheap_costs {g} lawful cheap e l = search rules

-- The usual first weights may be the first.
pub raised_first : (g : WeightedGraph) (y : List ℤ) → IsCheap g
    → ((most : ℕ) → AreCostsBelow g most → HaveRoom g most y) → AreFirst g y
raised_first g y cheap have =
    let w = greatest g cheap in
    let room = have w.0 w.1 in search (rules, mul-le-mul_left)

-- A forest whose weights were given is made for the graph.
pub made_first : {g : WeightedGraph} (y : List ℤ) {t u : ForestTables} → length y ≡ g.n
    → (IsCheap g → (b : ℕ) → g.n * unsigned_abs (get_or y b (pos 0)) ≤ MAX_FIRST) → u ≡ t → IsValidFor g t
    → t.root ≡ None → length t.up ≡ g.n + g.n / 2 → ((b : ℕ) → (forest_of t).weight b ≡ get_or y b (pos 0))
    → IsMadeFor g u
made_first y long range same valid none size weights = rw same (record {
  valid = valid;
  no_tree = none;
  size = size;
  sets = λ b high. weights b ∙ get_or_past y b (pos 0) (omega (arith, high, long));
  small = λ cheap b. rw (weights b) (range cheap b);
})

-- First weights are feasible, and small.
pub first_feasible : {g : WeightedGraph} {y : List ℤ} → AreFirst g y → AreFeasible g y
first_feasible {g} {y} first = search (rules, get_or_past)

-- Numbers near wished ones may be the first.
pub wished_first : {g : WeightedGraph} (ys y : List ℤ) → y ≡ ys → IsSmallGraph g → IsCheap g → length ys ≡ g.n
    → ((most : ℕ) → AreCostsBelow g most → (v : ℕ) → unsigned_abs (get_or ys v (pos 0)) ≤ 2 * most + MAX_WISH)
    → ((e : ℕ) → e < length g.edges → HasRoom g ys e) → AreFirst g y
wished_first {g} ys y same small cheap long near feasible = rw same (record {
  long = long;
  range = λ v. (let w = greatest g cheap in
      omega (arith, mul-le-mul_left g.n (near w.0 w.1 v), w.2, small.vertices));
  feasible = feasible;
})

-- They are small, too.
pub wished_small : (g : WeightedGraph) {ys y : List ℤ} → y ≡ ys → IsCheap g → length ys ≡ g.n
    → ((most : ℕ) → AreCostsBelow g most → (v : ℕ) → unsigned_abs (get_or ys v (pos 0)) ≤ 2 * most + MAX_WISH)
    → AreSmall y
wished_small g same cheap long near = rw same (λ v l. (let w = greatest g cheap in
    omega (arith, near w.0 w.1 v, w.2, one_of g.n w.0 (omega (arith, long)))))

-- No number of a dual is greater than the weights of its forest.
dual_most : {n : ℕ} {f : Forest} {d : DualLists} (most : ℕ) → IsDualOf n f d → 2 * length d.z ≤ n
    → (1 ≤ n → (b : ℕ) → unsigned_abs (f.weight b) ≤ most) → AreAtMost most d
dual_most {n} {f} {d} most is few low = record {
  vertices = λ k l. rw (is.y k (omega (arith, is.vertices))) (low (omega (arith, is.vertices)) k);
  sets = λ k l. rw (is.sets k l).3 (low (omega arith) (is.sets k l).0);
}

module _ {g : WeightedGraph} {s : Search} {d : DualLists} (idle : IsIdle g s)
    (is : IsDualOf (length s.forest.hand) (forest_of s.forest) d) (few : 2 * length d.z ≤ length s.forest.hand) where
  -- The dual of a forest in range is small.
  pub small_dual : IsSmallDual d
  small_dual =
      let most = dual_most (6 * MAX_PRODUCT) is few (λ some. small_weights idle.made.small.lawful idle.made.cheap
      idle.made.perfect.1 idle.made.first idle.made.low idle.range idle.valid.valid) in
      record {
        sets = omega (arith, few, idle.valid.vertices, idle.made.small.vertices);
        small_y = λ k l. omega (arith, ints, most.vertices k l);
        small_z = λ k l. omega (arith, ints, most.sets k l);
      }

  -- And no number is far above the first weights and the costs.
  pub bounded_dual : (most : ℕ) → AreCostsBelow g most → AreAtMost (2 * (g.n * s.first) + g.n * most) d
  bounded_dual most each = dual_most (2 * (g.n * s.first) + g.n * most) is few (λ some b. omega (
    arith,
    one_of g.n s.first (omega (arith, some, idle.valid.vertices)),
    weights_most idle.made.small.lawful idle.made.cheap idle.made.perfect.1 idle.made.first idle.made.low idle.range
        idle.valid.valid most each b,
  ))

-- Greater bounds hold too.
pub at_most_more : {d : DualLists} {x : ℕ} (y : ℕ) → x ≤ y → AreAtMost x d → AreAtMost y d
at_most_more y le are = search rules

-- What the run of a matcher comes to is bounded by its first weights.
pub run_bounded : (g : WeightedGraph) {s : Search} (end : Search) {d : DualLists} → IsReady s → end.first ≡ s.first
    → (first most : ℕ) → ((b : ℕ) → unsigned_abs ((forest_of s.forest).weight b) ≤ first)
    → AreAtMost (2 * (g.n * end.first) + g.n * most) d → AreAtMost (2 * (g.n * first) + g.n * most) d
run_bounded g {s} end ready same first most each are =
    let low : end.first ≤ first = grind arith in search (rules, mul-le-mul_left)

-- Searches that are about to begin, and edges that are matched before.

-- The tables that are ready fit the graph for which the matcher is made.
pub ready_idle : {g : WeightedGraph} {s : Search} → IsSmallGraph g → IsCheap g → HasPerfect g → IsReady s
    → IsMadeFor g s.forest → IsIdle g s
ready_idle {g} {s} small cheap perfect ready for =
    let limits : (g.n * s.first ≤ first_limit) × (s.first ≤ first_limit) = grind (arith, one_of g.n s.first) in
    let (limit, low) = limits in
    let fans : AreFans g s.fans.first.items s.fans.next.items = record {
      vertices = ready.vertices ∙ for.valid.vertices;
      darts = ready.darts ∙ for.valid.darts;
      firsts = λ v. omega (arith, for.valid.darts);
      nexts = ready.nexts;
      all = λ d l. rw (← for.valid.ends d l) (ready.all d (omega arith));
    } in
    let made : IsMade g s = search rules in
    let range : IsInRange g.n s.first (forest_of s.forest) s.risen = grind (
      arith,
      range_begun g.n s.first (forest_of s.forest) for.size for.sets,
    ) in
    assumption

-- A free edge may be matched once its one end is the root.
pub free_augments : {g : WeightedGraph} {f : Forest} {e : ℕ} → IsValid (darts_of g) f None → IsFreeEdge g f e
    → edge_kind g (rooted f (f.out (edge_at g e).u)) e ≡ Augment
free_augments {g} {f} {e} valid free = search rules
