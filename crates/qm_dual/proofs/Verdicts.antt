-- The verdict yes is that the dual says yes.
use Rattle.std.proofs.Common.{rules, ◌≡◌, ℕ, ◌+◌, ◌<◌, Bool, true, false, not, List, length, ℤ, pos, ◌*ℤ◌, ◌≤ℤ◌, ◌^◌}
use Rattle.std.proofs.Common.{◌≤◌, Option, Some, None, IfNone, Result, Ok, Err, IfOk, refl, sym, ◌∙◌, arith}
use Rattle.std.specs.Prelude.{int_lt, slice_index, slice_index_or}
use Rattle.qm_dual.proofs.Gathered.{least_none, least_some, least_same, none_below}
use Rattle.def_matching.specs.declared.weighted.Verdict.TheVariants.{Yes, Shape, Even, Negative, Short}
use Rattle.def_matching.specs.Matching.{WeightedGraph, IsGraph, edge_at, IsPerfect, matching_cost}
use Rattle.def_matching.specs.Dual.{DualLists, AreNestedSets, SaysYes, set_size, is_odd_size, is_up, load, z_at}
use Rattle.def_matching.specs.Dual.{dual_sum, shape_fault, even_fault, negative_fault, short_fault, refuse, verdict}
use Rattle.std.{proofs.lemmas.Int.ints, proofs.lemmas.Bool.not-false, proofs.lemmas.Bool.Decides.nat_tests}
use Rattle.{def_matching.specs.declared.weighted.Verdict.Verdict, qm_dual.proofs.Weak.weak_duality}
use Rattle.{def_math.specs.Searches.least, qm_dual.specs.Nest.AreSizes, qm_dual.specs.Nest.IsNest}

-- The load of an edge is above twice its cost.
abbrev pub is_short : WeightedGraph → DualLists → ℕ → Bool
is_short g d k = int_lt (pos 2 *ℤ (edge_at g k).cost) (load g.n d (edge_at g k))

-- The last refusal, or else yes.
abbrev pub short_or_yes : WeightedGraph → DualLists → Option ℕ → Verdict
short_or_yes g d short =
    refuse short (λ k. Short k (load g.n d (edge_at g k)) (pos 2 *ℤ (edge_at g k).cost)) (Yes (dual_sum d))

-- The sets are nested where the lists are long enough and no entry is out of range.
placed : (n m : ℕ) (up : List ℕ) → length up ≡ n + m → least (λ i. not (is_up n m i (slice_index up i))) (n + m) ≡ None
    → AreNestedSets n m up
placed n m up long none = record {
  entries = long;
  later = λ i l. not-false (is_up n m i (slice_index up i))
      (none_below (λ j. not (is_up n m j (slice_index up j))) (n + m) none i l);
}

-- No fault of the shape: all that is asked of it.
shaped : (n : ℕ) (d : DualLists) → shape_fault n d ≡ None → (length d.y ≡ n) × AreNestedSets n (length d.z) d.up
shaped n d none = grind (arith, nat_tests, none, placed n (length d.z) d.up)

-- A well shaped dual has no fault of the shape.
no_shape_fault : (n : ℕ) (d : DualLists) → length d.y ≡ n → AreNestedSets n (length d.z) d.up → shape_fault n d ≡ None
no_shape_fault n d ny nested = search (rules, least_none)

pub yes_says : (g : WeightedGraph) (d : DualLists) (s : ℤ) → verdict g d ≡ Yes s → SaysYes g d × (s ≡ dual_sum d)
yes_says g d s is = by_faults (shape_fault g.n d) (even_fault g.n d) (negative_fault d) (short_fault g d)
    refl refl refl refl is
  where
    at_most : (x y : ℤ) → int_lt y x ≡ false → x ≤ℤ y
    at_most x y off = grind (arith, ints)

    by_faults : (shape even negative short : Option ℕ) → shape_fault g.n d ≡ shape → even_fault g.n d ≡ even
        → negative_fault d ≡ negative → short_fault g d ≡ short
        → refuse shape (λ i. Shape i) (refuse even (λ k. Even k (set_size g.n d k))
        (refuse negative (λ k. Negative k) (short_or_yes g d short))) ≡ Yes s → SaysYes g d × (s ≡ dual_sum d)
    by_faults None None None None a b c e same =
        let shape = shaped g.n d a in (
          record {
            numbers = shape.0;
            nested = shape.1;
            odd = λ k l. not-false _ (none_below (λ j. not (is_odd_size (set_size g.n d j))) (length d.z) b k l);
            positive = λ k l. at_most (pos 0) (z_at d k)
                (none_below (λ j. int_lt (z_at d j) (pos 0)) (length d.z) c k l);
            loaded = λ k l. at_most (load g.n d (edge_at g k)) (pos 2 *ℤ (edge_at g k).cost)
                (none_below (is_short g d) (length g.edges) e k l);
          },
          cc,
        )
    by_faults _ _ _ _ a b c e same = absurd cc

pub says_yes : (g : WeightedGraph) (d : DualLists) → SaysYes g d → verdict g d ≡ Yes (dual_sum d)
says_yes g d says = search (rules, least_none, ints)

-- After yes each perfect matching has twice its cost at least the sum.
pub yes_bounds : (g : WeightedGraph) (d : DualLists) (v : Verdict) → IsGraph g → v ≡ verdict g d → (s : ℤ) → v ≡ Yes s
    → (m : List ℕ) → IsPerfect g m → s ≤ℤ (pos 2 *ℤ matching_cost g m)
yes_bounds g d v is value s here m perfect =
    let says = yes_says g d s (sym value ∙ here) in
    rw says.1 (weak_duality g d is says.0 m perfect)

-- Few sets that are nested, where no entry is out of range.
pub nest_where_placed : (n : ℕ) (d : DualLists) (o : Option ℕ) → n ≤ 2 ^ 25 → length d.z ≤ 2 ^ 30
    → length d.up ≡ n + length d.z
    → o ≡ least (λ i. not (is_up n (length d.z) i (slice_index d.up i))) (n + length d.z) → IfNone o (IsNest n d)
nest_where_placed n d (Some k) few sets long is = tt
nest_where_placed n d None few sets long is =
    record { few = few; sets = sets; nested = placed n (length d.z) d.up long (sym is) }

-- The refusal of the least edge whose load is too great.
pub short_found : (g : WeightedGraph) (d : DualLists) (k : ℕ) (sum cost : ℤ) → k < length g.edges
    → ((j : ℕ) → j < k → is_short g d j ≡ false) → sum ≡ load g.n d (edge_at g k) → cost ≡ pos 2 *ℤ (edge_at g k).cost
    → int_lt cost sum ≡ true → Short k sum cost ≡ short_or_yes g d (short_fault g d)
short_found g d k sum cost l before is twice above =
    let here : is_short g d k ≡ true = rw (← is, ← twice) above in
    rw (least_some (is_short g d) (length g.edges) k l before here, is, twice) refl

-- Yes, where no load is too great.
pub none_short : (g : WeightedGraph) (d : DualLists) (sum : ℤ) → ((j : ℕ) → j < length g.edges → is_short g d j ≡ false)
    → sum ≡ dual_sum d → Yes sum ≡ short_or_yes g d (short_fault g d)
none_short g d sum off is = rw (least_none (is_short g d) (length g.edges) off, is) refl

-- The verdict on a dual of the right shape, where tables of the sizes and of the numbers have been searched.
pub shaped_verdict : (g : WeightedGraph) {d : DualLists} {n : ℕ} {sizes table : List ℕ} {z : List ℤ}
    {even negative : Option ℕ} → n ≡ g.n → length d.y ≡ n → AreNestedSets n (length d.z) d.up → AreSizes n d sizes
    → table ≡ sizes → z ≡ d.z → even ≡ least (λ k. not (is_odd_size (slice_index table k))) (length table)
    → negative ≡ least (λ k. int_lt (slice_index_or z k (pos 0)) (pos 0)) (length z) → verdict g d ≡ refuse even
    (λ k. Even k (set_size g.n d k)) (refuse negative (λ k. Negative k) (short_or_yes g d (short_fault g d)))
shaped_verdict g {d} {even} {negative} over numbers nested are whole all found below =
    let shape : shape_fault g.n d ≡ None = rw (← over) (no_shape_fault _ d numbers nested) in
    let odd : even_fault g.n d ≡ even =
    rw (found, whole, are.count, ← over) (least_same _ _ (length d.z) (λ k l. rw (are.each k l) refl)) in
    let high : negative_fault d ≡ negative = rw (below, all) refl in
    rw (shape, odd, high) refl

-- The same of an answer that may want memory.
pub bound_where_exact : {E : Type 0} (g : WeightedGraph) (d : DualLists) → IsGraph g → (r : Result Verdict E)
    → IfOk r (λ v. v ≡ verdict g d)
    → IfOk r (λ v. (sum : ℤ) → v ≡ Yes sum → (m : List ℕ) → IsPerfect g m → sum ≤ℤ (pos 2 *ℤ matching_cost g m))
bound_where_exact g d is (Ok v) value = yes_bounds g d v is value
bound_where_exact g d is (Err e) value = tt
