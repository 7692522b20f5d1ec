-- A forest that is written down as a dual: the sets hold what they held, and the dual says yes.
use Rattle.std.proofs.Common.{rules, ◌≡◌, ◌≢◌, ℕ, zero, suc, ◌+◌, ◌-◌, ◌*◌, ◌<◌, ◌≤◌, Bool, true, false, cond, eqb}
use Rattle.std.proofs.Common.{inl, inr, arith, ◌||◌, List, length, get_or, pos, ◌+ℤ◌, ◌*ℤ◌, ◌≤ℤ◌, ◌⊎◌, refl, sym}
use Rattle.std.proofs.{Common.◌∙◌, Common.ap, lemmas.Bool.and_from, lemmas.Bool.ne_eqb, Math.Bool.or-false}
use Rattle.std.proofs.lemmas.Bool.{cases_eq, cases_lt, cond-false, cond-true, eq-eqb, eqb-true, le-leb, le-ltb, lt-ltb}
use Rattle.sum_laws.proofs.Sums.{count_below_same, total_below_one, total_below_same, total_below_sum}
use Rattle.def_matching.specs.Dual.{DualLists, SaysYes, AreNestedSets, crosses, dual_sum, holds, is_odd_size, is_up}
use Rattle.def_forest.specs.Forests.{Forest, dual_sum_of, weight_between, splits, blossom_size}
use Rattle.def_forest.specs.Tables.{ForestTables, forest_of, climbs, up_at}
use Rattle.forest_laws.proofs.Bounds.{are_darts, dart_cost, dart_far, dart_near}
use Rattle.forest_laws.proofs.{Odds.large_set, Odds.odd_blossom, Grows.by_none, Grows.by_two}
use Rattle.qm_forest.specs.Outlines.{IsOutline, entry_of, set_in}
use Rattle.qm_forest.proofs.Withins.{alone, rising, IsRising, in_where}
use Rattle.qm_forest.proofs.Waitings.{place_of, set_low, sized, sum_parts}
use Rattle.{std.proofs.lemmas.Int.ints, def_math.specs.Sums.total, def_math.specs.Sums.total_below}
use Rattle.{sum_laws.proofs.Tests.same_test, def_matching.specs.Matching.WeightedGraph}
use Rattle.{def_matching.specs.Matching.edge_at, def_forest.specs.Darts.darts_of}
use Rattle.{def_forest.specs.Written.IsDualOf, qm_forest.specs.Rounds.IsLaminar, qm_forest.specs.Rounds.IsSoundFor}
use Rattle.{qm_forest.proofs.Fresh.climbs_self, qm_forest.proofs.Enclosed.climbs_place, std.specs.Prelude.nat_lt}
use Rattle.{std.specs.List.list_any, qm_dual.proofs.Tallies.total_entries}
use Rattle.def_matching.specs.Dual.{load as dual_load, set_size, sets_from, y_at, z_at}

-- A lawful entry.
entry_lawful : (n m i entry : ℕ) → (entry ≡ 0) ⊎ ((i + 1 < n + entry) × (entry ≤ m)) → is_up n m i entry ≡ true
entry_lawful n m i entry h = grind arith

module _ {t : ForestTables} (known : IsLaminar t) {sets : List (ℕ × ℕ)} {d : DualLists} (is : IsOutline t sets d) where
  abbrev f : Forest
  f = forest_of t

  abbrev n : ℕ
  n = length t.hand

  abbrev up : ℕ → ℕ
  up = up_at t.up

  abbrev m : ℕ
  m = length sets

  abbrev entry : ℕ → ℕ
  entry x = entry_of (up_at t.up) is.names x

  sets_many : length d.z ≡ m
  sets_many = is.z.size

  -- What is around a blossom is a set of the order.
  around_place : (x : ℕ) → up x ≢ x → (k : ℕ) × (k < m) × (set_in sets k ≡ up x)
  around_place x ne = place_of is.order (up x) (is.around x ne).0 (is.around x ne).1 (is.around x ne).2

  entry_none : {x : ℕ} → up x ≡ x → entry x ≡ 0
  entry_none {x} e = cond-true _ _ _ (eq-eqb (up x) x e)

  entry_some : (x k : ℕ) → up x ≢ x → k < m → set_in sets k ≡ up x → entry x ≡ suc k
  entry_some x k ne l at = search rules

  vertex_entry : (v : ℕ) → v < n → get_or d.up v 0 ≡ entry v
  vertex_entry v l = (let z : v ≡ 0 + v = omega arith in ap (λ i. get_or d.up i 0) z) ∙ is.entries.vertices v l

  -- A set's name, and 0 for a vertex: it rises on the way out.
  abbrev name : ℕ → ℕ
  name x = cond (nat_lt x n) 0 (get_or is.names x 0)

  name_set : (k : ℕ) → k < m → name (set_in sets k) ≡ suc k
  name_set k l = cond-false _ _ _ (le-ltb (set_in sets k) n (sized is.order k l).high) ∙ is.named k l

  later : (j k : ℕ) → j < m → k < m → get_or t.rank (set_in sets j) 0 < get_or t.rank (set_in sets k) 0 → j < k
  later j k lj lk less = search rules

  inner_later : (j x : ℕ) → j < m → set_in sets j ≡ x → (ne : up x ≢ x) → j < (around_place x ne).0
  inner_later j x l at ne =
      later j _ l (around_place x ne).1 (rw (at, (around_place x ne).2) (known.rises x ne))

  names : IsRising m up name
  names = record {
    rises = λ x ne. (let outer : name (up x) ≡ suc (around_place x ne).0 =
        ap name (sym (around_place x ne).2) ∙ name_set _ (around_place x ne).1 in
        elim (cases_lt x n) [
          | inl l ↦ (let here : name x ≡ 0 = cond-true _ _ _ (lt-ltb x n l) in omega arith)
          | inr h ↦ (let w = place_of is.order x h (is.inner x ne) (is.live x ne h) in
              omega (arith, ap name (sym w.2) ∙ name_set w.0 w.1, inner_later w.0 x w.1 w.2 ne))
        ]);
  }

  module _ (k : ℕ) (low : k < m) where
    abbrev b : ℕ
    b = set_in sets k

    abbrev here : ℕ → Bool
    here j = eqb j k

    any_none : (most : ℕ) {x : ℕ} → up x ≡ x → list_any here (sets_from n d.up (suc most) (entry x)) ≡ false
    any_none most e = ap (λ z. list_any here (sets_from n d.up (suc most) z)) (entry_none e)

    any_step : (most x : ℕ) → up x ≢ x → list_any here (sets_from n d.up (suc most) (entry x))
        ≡ (eqb (up x) b || list_any here (sets_from n d.up most (entry (up x))))
    any_step most x ne =
        let w = around_place x ne in
        let same = same_test _ _ (λ on. eq-eqb (up x) b (sym w.2 ∙ ap (set_in sets)
        (eqb-true w.0 k on))) (λ on. eq-eqb w.0 k (let e : suc w.0 ≡ suc k = sym (is.named w.0 w.1)
        ∙ (ap (λ z. get_or is.names z 0) (w.2 ∙ eqb-true (up x) b on) ∙ is.named k low) in omega arith)) in
        cc (entry_some x w.0 ne w.1 w.2, is.entries.sets w.0 w.1)

    -- The sets that an entry leads to are those that one climbs past.
    any_is : (most x : ℕ) → up x ≢ x → list_any here (sets_from n d.up (suc most) (entry x)) ≡ climbs up most b (up x)
    any_is zero x ne = any_step zero x ne ∙ or-false (eqb (up x) b)
    any_is (suc more) x ne = any_step (suc more) x ne ∙ elim (cases_eq (up (up x)) (up x)) [
      | inl e ↦ ap (λ s. eqb (up x) b || s) (any_none _ e) ∙ (or-false _ ∙ sym (climbs_self up (suc more) b e))
      | inr inner ↦ ap (λ s. eqb (up x) b || s) (any_is more (up x) inner)
    ]

    -- A set holds what it held.
    pub holds_is : (v : ℕ) → v < n → holds n d k v ≡ f.holds b v
    holds_is v l =
        let enough : climbs up m b v ≡ climbs up n b v = same_test _ _
        (λ on. (let w = climbs_place up m b v on in in_where (rising known) v w.0
        (known.low b (set_low is.order k low) (inr (sized is.order k low).live)) w.1))
        (λ on. (let w = climbs_place up n b v on in in_where names v w.0 (omega (arith, name_set k low)) w.1)) in
        cc (vertex_entry v l, fuel m refl)
      where
        other : v ≢ b
        other e = omega (arith, (sized is.order k low).high)

        fuel : (z : ℕ) → z ≡ m → list_any here (sets_from n d.up z (entry v)) ≡ climbs up z b v
        fuel zero e = absurd (omega arith)
        fuel (suc z) e = search (rules, climbs_self, any_is)

    pub z_is : z_at d k ≡ f.weight b
    z_is = is.z.each k low

  pub few_is : 2 * length d.z ≤ n
  few_is = omega arith

  y_is : (v : ℕ) → v < n → y_at d v ≡ f.weight v
  y_is v l = is.y.each v l

  module _ {g : WeightedGraph} (valid : IsSoundFor g t) where
    high_in : (b : ℕ) → n ≤ b → g.n ≤ b
    high_in b h = rw valid.vertices at h

    low_in : (v : ℕ) → v < g.n → v < n
    low_in v l = rw valid.vertices l

    weights_high : (b : ℕ) → n ≤ b → b < length t.up → pos 0 ≤ℤ f.weight b
    weights_high b h l = valid.valid.feasible.sets b (high_in b h) l

    weights_none : (b : ℕ) → n ≤ b → get_or t.parts b 0 ≡ 0 → f.weight b ≡ pos 0
    weights_none b h dead = valid.valid.nested.weightless b (high_in b h) dead

    -- The sum is that of the weights.
    sum_is : dual_sum d ≡ dual_sum_of f
    sum_is =
        let ys : total (λ y. y) d.y ≡ total_below f.weight n = total_entries _ _ d.y
        ∙ (ap (total_below (λ v. get_or d.y v (pos 0))) is.y.size ∙ total_below_same _ _ n (λ v l. is.y.each v l)) in
        let zs : total (λ z. z) d.z ≡ total_below (λ k. f.weight (set_in sets k)) m = total_entries _ _ d.z
        ∙ (ap (total_below (λ k. get_or d.z k (pos 0))) sets_many ∙ total_below_same _ _ m (λ k l. is.z.each k l)) in
        omega (arith, ints, ys, zs, sum_parts is.order _ known.vertices weights_high weights_none)

    pub dual_is : IsDualOf n f d
    dual_is = record {
      vertices = is.y.size;
      y = y_is;
      sets = λ k l. (let low : k < m = rw sets_many at l in (
        set_in sets k,
        (sized is.order k low).high,
        (sized is.order k low).live,
        z_is k low,
        λ v lv. holds_is k low v lv,
      ));
      sum = sum_is;
    }

    nested : AreNestedSets g.n (length d.z) d.up
    nested = record {
      entries = omega (arith, is.entries.size, valid.vertices, sets_many);
      later = λ i l. rw (← valid.vertices, sets_many) (by_place i (omega (arith, l, valid.vertices, sets_many)));
    }
      where
        at : (i x : ℕ) → get_or d.up i 0 ≡ entry x → ((ne : up x ≢ x) → i < n + (around_place x ne).0)
            → is_up n m i (get_or d.up i 0) ≡ true
        at i x e less = ap (λ z. is_up n m i z) e ∙ entry_lawful n m i (entry x) (elim (cases_eq (up x) x) [
          | inl s ↦ inl (entry_none s)
          | inr ne ↦ (let w = around_place x ne in let e = entry_some x w.0 ne w.1 w.2 in
              inr (omega (arith, e, less ne), omega (arith, e, w.1)))
        ])

        by_place : (i : ℕ) → i < n + m → is_up n m i (get_or d.up i 0) ≡ true
        by_place i l = elim (cases_lt i n) [
          | inl low ↦ at i i (vertex_entry i low) (λ ne. omega (arith, low))
          | inr high ↦ (let k_low : i - n < m = omega (arith, l, high) in
              let i_is : i ≡ n + (i - n) = omega (arith, high) in
              at i (set_in sets (i - n)) (ap (λ z. get_or d.up z 0) i_is ∙ is.entries.sets (i - n) k_low)
              (λ ne. omega (arith, inner_later (i - n) (set_in sets (i - n)) k_low refl ne, high)))
        ]

    -- A set has as many vertices as it had.
    size_is : (k : ℕ) → k < m → set_size g.n d k ≡ blossom_size g.n f (set_in sets k)
    size_is k l = search (rules, count_below_same, holds_is)

    size_odd : (k : ℕ) → k < m → is_odd_size (set_size g.n d k) ≡ true
    size_odd k l =
        let high = high_in (set_in sets k) (sized is.order k l).high in
        let live = (sized is.order k l).live in
        let are = are_darts valid.small.lawful in
        ap is_odd_size (size_is k l) ∙ and_from _ _ (eq-eqb _ _ (odd_blossom are valid.valid.nested (set_in sets k)
        (inr (high, live)))) (le-leb 3 _ (large_set are valid.valid.nested (set_in sets k) high live))

    -- What the vertices add to a load.
    ends_load : (u v : ℕ) → u < n → v < n → u ≢ v
        → total_below (λ w. cond (splits (f.holds w) u v) (f.weight w) (pos 0)) n ≡ f.weight u +ℤ f.weight v
    ends_load u v lu lv ne =
        let at = λ (a w : ℕ). cond (eqb w a) (f.weight w) (pos 0) in
        let only : (a : ℕ) → a < n → total_below (at a) n ≡ f.weight a = λ a l. total_below_one (at a) n a l
        (λ k lk off. cond-false _ _ _ (ne_eqb k a off)) ∙ cond-true _ _ _ (eq-eqb a a refl) in
        let whole = total_below_same (λ w. cond (splits (f.holds w) u v) (f.weight w) (pos 0))
        (λ w. at u w +ℤ at v w) n (λ w l. rw (alone known w u l lu, alone known w v l lv)
        (by_two (eqb w u) (eqb w v) (f.weight w) (λ a c. ne (sym (eqb-true w u a) ∙ eqb-true w v c)))) in
        omega (arith, ints, total_below_sum (at u) (at v) n, only u lu, only v lv)

    -- The load of an edge is what it was.
    load_is : (e : ℕ) → e < length g.edges → dual_load g.n d (edge_at g e)
        ≡ weight_between f (edge_at g e).u (edge_at g e).v
    load_is e l =
        let u = (edge_at g e).u in
        let v = (edge_at g e).v in
        let u_low = low_in u (valid.small.lawful.left e l) in
        let v_low = low_in v (valid.small.lawful.right e l) in
        let added = λ (b : ℕ). cond (splits (f.holds b) u v) (f.weight b) (pos 0) in
        let held : (k w : ℕ) → k < m → w < n → holds g.n d k w ≡ f.holds (set_in sets k) w =
        λ k w lk lw. ap (λ x. holds x d k w) (sym valid.vertices) ∙ holds_is k lk w lw in
        let load = λ (k : ℕ). cond (crosses (holds g.n d k) (edge_at g e)) (z_at d k) (pos 0) in
        let sets_load : total_below load (length d.z) ≡ total_below (λ k. added (set_in sets k)) m =
        ap (total_below load) sets_many ∙ total_below_same load (λ k. added (set_in sets k)) m
        (λ k lk. rw (held k u lk u_low, held k v lk v_low, z_is k lk)) in
        let parts = sum_parts is.order added known.vertices (λ b h lb. grind (arith, ints, weights_high b h lb))
        (λ b h dead. rw (weights_none b h dead) (by_none (splits (f.holds b) u v))) in
        let ends = ends_load u v u_low v_low (valid.small.lawful.apart e l) in
        omega (arith, ints, y_is u u_low, y_is v v_low)

    edge_loaded : (e : ℕ) → e < length g.edges → dual_load g.n d (edge_at g e) ≤ℤ (pos 2 *ℤ (edge_at g e).cost)
    edge_loaded e l =
        let low : 2 * e < (darts_of g).count = omega (arith, l) in
        let load = rw (dart_near g e, dart_far g e) at (valid.valid.feasible.darts (2 * e) low) in
        omega (arith, ints, dart_cost g e, load_is e l)

    -- The dual says yes.
    pub says_yes : SaysYes g d
    says_yes = search (rules, nested, size_odd, edge_loaded)
