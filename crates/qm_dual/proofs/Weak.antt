-- Weak duality: where a dual says yes, each perfect matching has twice its cost at least the dual's sum.
use Rattle.std.proofs.Common.{rules, ◌≡◌, ℕ, ◌+◌, ◌*◌, ◌%◌, ◌<◌, ◌≤◌, Bool, true, cond, List, [], ◌∷◌, map}
use Rattle.std.proofs.Common.{length, ℤ, pos, ◌+ℤ◌, ◌*ℤ◌, ◌≤ℤ◌, refl, arith}
use Rattle.std.proofs.{lemmas.Bool.cases_Bool, lemmas.Int.ints, lemmas.Bool.Decides.nat_tests}
use Rattle.def_math.specs.{Counts.count, Counts.count_below, Sums.total, Sums.total_below, Increasing.IsIncreasing}
use Rattle.sum_laws.proofs.Sums.{count_below_total, total_sum, total_below_le, two_orders}
use Rattle.qm_dual.proofs.{Gathered.EndsBelow, Gathered.ends_once, Tallies.total_entries}
use Rattle.def_matching.specs.Matching.{WeightedGraph, IsGraph, edge_at, ends_at, IsPerfect, matching_cost}
use Rattle.def_matching.specs.{Dual.DualLists, Dual.SaysYes, Dual.holds, Dual.set_size, Dual.is_odd_size, Dual.crosses}
use Rattle.def_matching.specs.{Dual.load, Dual.y_at, Dual.z_at, Dual.dual_sum, declared.weighted.WEdge.WEdge}

-- The edges of increasing numbers have their ends among the vertices.
pub chosen_below : (g : WeightedGraph) → IsGraph g → (low : ℕ) (m : List ℕ) → IsIncreasing low (length g.edges) m
    → EndsBelow (λ (e : WEdge). e.u) (λ (e : WEdge). e.v) g.n (map (edge_at g) m)
chosen_below g is low [] increasing = tt
chosen_below g is low (k ∷ ks) increasing = search (rules, chosen_below g is (k + 1) ks increasing.2)

-- No load of the chosen edges is above twice the cost, and so their sum is not.
pub loads_low : (g : WeightedGraph) (d : DualLists) → SaysYes g d → (low : ℕ) (m : List ℕ)
    → IsIncreasing low (length g.edges) m → total (load g.n d) (map (edge_at g) m) ≤ℤ (pos 2 *ℤ matching_cost g m)
loads_low g d says low [] increasing = omega (arith, ints)
loads_low g d says low (k ∷ ks) increasing =
    omega (arith, ints, says.loaded k increasing.1, loads_low g d says (k + 1) ks increasing.2)

abbrev inside : (ℕ → Bool) → WEdge → ℕ
inside s e = cond (s e.u) (cond (s e.v) 1 0) 0

abbrev leaving : (ℕ → Bool) → WEdge → ℕ
leaving s e = cond (crosses s e) 1 0

-- The ends that a set holds: two of each edge inside, one of each edge that leaves.
pub ends_held : (s : ℕ → Bool) (es : List WEdge) → total (λ e. pos (cond (s e.u) 1 0) +ℤ pos (cond (s e.v) 1 0)) es
    ≡ pos (2 * count (inside s) es + count (leaving s) es)
ends_held s [] = refl
ends_held s (e ∷ es) = grind (arith, ints, ends_held s es)

-- A sum of a number over the edges that leave is not negative where the number is not.
pub leaving_high : (s : ℕ → Bool) (z : ℤ) (es : List WEdge) → pos 0 ≤ℤ z
    → pos 0 ≤ℤ total (λ e. cond (crosses s e) z (pos 0)) es
leaving_high s z [] high = omega (arith, ints)
leaving_high s z (e ∷ es) high = grind (arith, ints, leaving_high s z es high)

-- Where an edge leaves, the number counts at least once.
pub at_least_once : (s : ℕ → Bool) (z : ℤ) (es : List WEdge) → pos 0 ≤ℤ z → 1 ≤ count (leaving s) es
    → z ≤ℤ total (λ e. cond (crosses s e) z (pos 0)) es
at_least_once s z [] high some = absurd (omega arith)
at_least_once s z (e ∷ es) high some =
    grind (arith, ints, cases_Bool (crosses s e), leaving_high s z es high, at_least_once s z es high, some)

-- An odd set has a leaving edge in each perfect matching.
pub odd_leaves : (s : ℕ → Bool) (n : ℕ) (es : List WEdge) → EndsBelow (λ (e : WEdge). e.u) (λ (e : WEdge). e.v) n es
    → ((v : ℕ) → v < n → count (ends_at v) es ≡ 1)
    → count_below (λ v. cond (s v) 1 0) n % 2 ≡ 1 → 1 ≤ count (leaving s) es
odd_leaves s n es below once odd =
    let ends = ends_once (λ (e : WEdge). e.u) (λ (e : WEdge). e.v) (λ v. pos (cond (s v) 1 0)) n es below once in
    let sum = count_below_total (λ v. cond (s v) 1 0) n in
    let is : count_below (λ v. cond (s v) 1 0) n ≡ 2 * count (inside s) es + count (leaving s) es =
    omega (arith, ints, ends_held s es) in
    omega arith

-- A lawful size is odd.
pub odd_size : (size : ℕ) → is_odd_size size ≡ true → size % 2 ≡ 1
odd_size size on = grind (arith, nat_tests)

pub weak_duality : (g : WeightedGraph) (d : DualLists) → IsGraph g → SaysYes g d → (m : List ℕ) → IsPerfect g m
    → dual_sum d ≤ℤ (pos 2 *ℤ matching_cost g m)
weak_duality g d is says m perfect =
    let es = map (edge_at g) m in
    let below = chosen_below g is 0 m perfect.increasing in
    let sets = λ (k : ℕ) (e : WEdge). cond (crosses (holds g.n d k) e) (z_at d k) (pos 0) in
    let zs = total_below_le (z_at d) (λ k. total (sets k) es) (length d.z) (λ k l. at_least_once (holds g.n d k)
    (z_at d k) es (says.positive k l) (odd_leaves (holds g.n d k) g.n es below perfect.once
    (odd_size (set_size g.n d k) (says.odd k l)))) in
    let all_n : total_below (y_at d) (length d.y) ≡ total_below (y_at d) g.n = rw says.numbers refl in
    let loads = loads_low g d says 0 m perfect.increasing in
    let sum = total_sum (λ (e : WEdge). y_at d e.u +ℤ y_at d e.v)
    (λ (e : WEdge). total_below (λ k. sets k e) (length d.z)) es in
    let ends = ends_once (λ (e : WEdge). e.u) (λ (e : WEdge). e.v) (y_at d) g.n es below perfect.once in
    let orders = two_orders sets (length d.z) es in
    omega (arith, ints, total_entries (λ y. y) (pos 0) d.y, total_entries (λ z. z) (pos 0) d.z)
