-- Climbing from two vertices of one blossom until one meets: what is passed on the way is what lies around just one.
use Rattle.std.proofs.Common.{rules, ◌≡◌, ◌≢◌, ℕ, zero, suc, ◌+◌, ◌*◌, ◌<◌, ◌≤◌, ◌^◌, Bool, true, false, cond, eqb}
use Rattle.std.proofs.Common.{◌||◌, ℤ, pos, ◌+ℤ◌, refl, sym, ◌∙◌, ap, arith, count_by, ◌/◌, ◌%◌, ◌⊎◌, Some, None, inl}
use Rattle.std.proofs.Common.{inr, max, List, length, get_or, replicate, ◌*ℤ◌, ◌≤ℤ◌, [], ◌∷◌}
use Rattle.std.proofs.lemmas.Bool.{cond-true, eq-eqb, eqb-true, cases_eq, ne_eqb}
use Rattle.std.proofs.{lemmas.Int.ints, lemmas.List.get_or-replicate, lemmas.List.length-replicate}
use Rattle.std.proofs.lemmas.List.{get_or_default, get_or_past, Folds.sum_by-replicate, Sums.sum_by-cons}
use Rattle.sum_laws.proofs.Sums.{total_below_same, total_below_sum, total_below_one, total_below_none, count_below_none}
use Rattle.def_forest.specs.Forests.{splits, walk, weight_between, dual_sum_of}
use Rattle.def_forest.specs.Tables.{climbs, size_of, ForestTables, forest_of, up_at, label_at, out_of, IsValidFor}
use Rattle.def_forest.specs.{Darts.darts_of, Steps.weight_change, Valid.AreOutermost, declared.kinds.Label.Label}
use Rattle.def_forest.specs.{declared.kinds.Label.TheVariants.Outside, Needs.AreFeasible}
use Rattle.forest_laws.proofs.{Walks.walk_fixed, Walks.walk_front, Walks.walk_sum, Grows.by_same, Grows.true_false}
use Rattle.forest_laws.proofs.{Grows.load_across, Bounds.eqb_order, Bounds.near_even, Bounds.near_odd, Bounds.twin_odd}
use Rattle.qm_forest.specs.Ties.{IsClimb, apart, AreTied, HiddenTables, IsFresh, AreStarts, HasLowCosts, IsGreatestTo}
use Rattle.qm_forest.specs.Ties.{IsLowered, potential, added, relabelled}
use Rattle.qm_forest.proofs.TiedWrites.{sum_small, tied_as, numbers_as, sizes_kept}
use Rattle.def_matching.specs.{Matching.WeightedGraph, Matching.IsGraph, Matching.edge_at}
use Rattle.{std.specs.Prelude.unsigned_abs, def_matching.specs.declared.weighted.WEdge.WEdge}

-- What is passed twice.
pub or_twice : (a : Bool) → (a || a) ≡ a
or_twice a = grind arith

-- One step more passes nothing new where one has come to stay.
climbs_last : (up : ℕ → ℕ) (m b y : ℕ) → up (walk up y m) ≡ walk up y m → climbs up (suc m) b y ≡ climbs up m b y
climbs_last up zero b y e = ap (λ x. eqb y b || eqb x b) e ∙ or_twice (eqb y b)
climbs_last up (suc m) b y e = ap (λ x. eqb y b || x)
    (climbs_last up m b (up y) (ap up (sym (walk_front up y m)) ∙ (e ∙ walk_front up y m)))

module _ {n : ℕ} {up : ℕ → ℕ} (rank : ℕ → ℕ) {out : ℕ → ℕ} (climb : IsClimb n up out) (rises : (x : ℕ) → up x ≢ x
    → rank x < rank (up x)) where
  -- One comes past a blossom only from below.
  passed_rank : (k b from : ℕ) → climbs up k b from ≡ true → from ≢ b → rank from < rank b
  passed_rank zero b from on ne = absurd (ne (eqb-true from b on))
  passed_rank (suc k) b from on ne = grind (arith, passed_rank k b (up from), rises from, eqb-true from b)

  rank_walk : (x k : ℕ) → rank x ≤ rank (walk up x k)
  rank_walk x zero = omega arith
  rank_walk x (suc k) = grind (arith, rank_walk x k, rises (walk up x k))

  -- A blossom on the way from a vertex.
  abbrev pub OnWayFrom : ℕ → ℕ → Type 0
  OnWayFrom v x = (i : ℕ) × (walk up v i ≡ x)

  -- Climbing further one comes to the outermost blossom.
  pub comes_out : (v x : ℕ) → v < n → OnWayFrom v x → walk up x n ≡ out v
  comes_out v x l w =
      let order : w.0 + n ≡ n + w.0 = omega arith in
      cc (walk_sum up v w.0 n, walk_sum up v n w.0, climb.ends v l, walk_fixed up w.0 (climb.tops v l))

  pub rank_low : (v x : ℕ) → v < n → OnWayFrom v x → rank x ≤ rank (out v)
  rank_low v x l w = rw (comes_out v x l w) at (rank_walk x n)

  -- Where one stays is the outermost blossom.
  pub fixed_top : (v : ℕ) {x : ℕ} → v < n → OnWayFrom v x → up x ≡ x → x ≡ out v
  fixed_top v {x} l w e = sym (walk_fixed up n e) ∙ comes_out v x l w

  pub goes_on : (v x : ℕ) → OnWayFrom v x → OnWayFrom v (up x)
  goes_on v x w = (suc w.0, ap up w.1)

  -- Of two blossoms on the ways, the lower can climb.
  pub can_climb : (u v x y : ℕ) → u < n → v < n → out u ≡ out v → OnWayFrom u x → OnWayFrom v y → x ≢ y
      → rank x ≤ rank y → up x ≢ x
  can_climb u v x y lu lv same wx wy ne le fixed = search (rules, rank_low, goes_on, fixed_top)

  -- What is passed from a blossom: itself, and what is passed from the one around it.
  climbs_step : (v x b : ℕ) → v < n → OnWayFrom v x → climbs up n b x ≡ (eqb x b || climbs up n b (up x))
  climbs_step v x b l w = by_size n refl
    where
      by_size : (m : ℕ) → n ≡ m → climbs up n b x ≡ (eqb x b || climbs up n b (up x))
      by_size zero e = absurd (omega arith)
      by_size (suc m) e =
          let here = sym (walk_front up x m) ∙ (ap (walk up x) (sym e) ∙ comes_out v x l w) in
          cc (climbs_last up m b (up x) (ap up here ∙ (climb.tops v l ∙ sym here)))

  module _ (weight : ℕ → ℤ) (size : ℕ) (u v x y : ℕ) (lu : u < n) (wx : OnWayFrom u x) (ne : x ≢ y)
      (le : rank x ≤ rank y) (inner : up x ≢ x) (low : x < size) where
    -- What a blossom weighs that is around just one of two, and x alone.
    abbrev part : ℕ → ℕ → ℤ
    part z b = cond (splits (climbs up n b) z y) (weight b) (pos 0)

    abbrev own : ℕ → ℤ
    own b = cond (eqb b x) (weight b) (pos 0)

    term : (b : ℕ) → part x b ≡ part (up x) b +ℤ own b
    term b = rw (climbs_step u x b lu wx, eqb_order x b) (search (rules, passed_rank))

    -- The lower climbs: its weight is passed.
    pub apart_step : apart n up weight size x y ≡ apart n up weight size (up x) y +ℤ weight x
    apart_step =
        let same = total_below_same (part x) (λ b. part (up x) b +ℤ own b) size (λ b l. term b) in
        let one = total_below_one own size x low (λ k l nk. grind arith) ∙ cond-true _ _ _ (eq-eqb x x refl) in
        omega (arith, ints, same, one, total_below_sum (part (up x)) own size)

-- It is the same in either order, nothing where one has met, and small.
pub apart_order : (n : ℕ) (up : ℕ → ℕ) (weight : ℕ → ℤ) (size x y : ℕ) → apart n up weight size x y
    ≡ apart n up weight size y x
apart_order n up weight size x y = total_below_same _ _ size (λ b l. grind arith)

pub apart_met : (n : ℕ) (up : ℕ → ℕ) (weight : ℕ → ℤ) (size : ℕ) {x y : ℕ} → x ≡ y → apart n up weight size x y ≡ pos 0
apart_met n up weight size e = total_below_none _ size (λ b l. by_same _ _ _ (ap (climbs up n b) e))

pub apart_small : (n : ℕ) (up : ℕ → ℕ) (weight : ℕ → ℤ) (size x y : ℕ) → ((b : ℕ) → unsigned_abs (weight b) ≤ 2 ^ 62)
    → unsigned_abs (apart n up weight size x y) ≤ size * 2 ^ 62
apart_small n up weight size x y small = sum_small _ size (λ b l. grind (arith, ints, small b))

-- The tables where the tree is forgotten. The tables of a forest of single vertices are tied, and valid for a graph
-- whose costs the weights stay below. How these weights, and the greatest cost, are found edge by edge.

-- Where no mark stands there are none to count.
pub none_counted : (marks : List Bool) → ((v : ℕ) → get_or marks v false ≡ false) → count_by (λ mark. mark) marks ≡ 0
none_counted [] none = refl
none_counted (m ∷ ms) none =
    grind (arith, sum_by-cons (λ (b : Bool). cond b 1 0) m ms, none 0, none_counted ms (λ v. none (suc v)))

module _ {t : ForestTables} {hid : HiddenTables} (tied : AreTied t hid)
    (outside : (k : ℕ) → k < length t.trail → label_at t.label (out_of t.hand t.top (get_or t.trail k 0)) ≡ Outside)
    (trail : List ℕ) where
  -- All blossoms are outside: those that are not outermost have no place in the tree.
  all_outside : (b : ℕ) → label_at t.label b ≡ Outside
  all_outside b = search rules

  abbrev pub forgotten : ForestTables
  forgotten = record t { root = None; delta = pos 0; trail = trail }

  unmoved : (b : ℕ) (d : ℤ) → weight_change (label_at t.label b) d ≡ pos 0
  unmoved b d = ap (λ (l : Label). weight_change l d) (all_outside b)

  weight_same : (forest_of forgotten).weight ≡ (forest_of t).weight
  weight_same i b = ap (λ (x : ℤ). get_or t.base b (pos 0) +ℤ x) (unmoved b (pos 0) ∙ sym (unmoved b t.delta)) i

  pub seen_forgotten : forest_of forgotten ≡ relabelled (forest_of t) (λ b. Outside)
  seen_forgotten i = record (forest_of t) { weight = weight_same i; label = λ b. all_outside b i }

  pub tied_forgotten : {marks : List Bool} → length marks ≡ length hid.touched
      → ((v : ℕ) → get_or marks v false ≡ true → get_or hid.touched v false ≡ true)
      → ((k : ℕ) → k < length t.trail → get_or marks (get_or t.trail k 0) false ≡ false) → length trail ≡ 0
      → {room : ℕ} → hid.room ≤ room → AreTied forgotten (record hid { touched = marks; room = room })
  tied_forgotten {marks} size old gone empty more = record {
    sizes = sizes_kept tied.sizes refl refl refl size more;
    nest = tied.nest;
    numbers = numbers_as tied.numbers weight_same (λ v l. ap (λ (x : ℤ). get_or hid.off (get_or t.hand v 0) (pos 0)
        +ℤ x) (unmoved _ (pos 0) ∙ sym (unmoved _ t.delta))) (omega arith, tied.numbers.risen.0) (λ none. refl);
    trail = record {
      low = λ k l. absurd (omega arith);
      counted = empty ∙ sym (none_counted marks (search rules));
      marked = λ v on. absurd (true_false on (search rules));
      named = λ b named. absurd (named (all_outside b));
    };
    pool = tied.pool;
  }

-- A list of one value has it everywhere, if it stands past the end too.
pub same_everywhere : {X : Type 0} {xs : List X} (n : ℕ) (x : X) → xs ≡ replicate n x → (k : ℕ) → get_or xs k x ≡ x
same_everywhere n x e k = search (rules, get_or-replicate, get_or_past, length-replicate)

-- And is as long as it has the value.
long_as : {X : Type 0} {xs : List X} (n : ℕ) (x : X) → xs ≡ replicate n x → length xs ≡ n
long_as n x e = ap length e ∙ length-replicate n x

-- Where each is around itself, one climbs past oneself alone.
pub climbs_self : (up : ℕ → ℕ) (k b : ℕ) {v : ℕ} → up v ≡ v → climbs up k b v ≡ eqb v b
climbs_self up zero b e = refl
climbs_self up (suc k) b {v} e = rw (e, climbs_self up k b e) (or_twice _)

module _ {n size : ℕ} {lows : List ℤ} {t : ForestTables} {hid : HiddenTables} (fresh : IsFresh n size lows t hid) where
  up_self : (b : ℕ) → up_at t.up b ≡ b
  up_self b = grind (arith, get_or_default t.up b b 0, get_or_past t.up b b, fresh.up.size, fresh.up.each b)

  out_is : (v : ℕ) → v < n → out_of t.hand t.top v ≡ v
  out_is v l = ap (λ k. get_or t.top k 0) (fresh.hand.each v l) ∙ fresh.top.each v l

  label_is : (b : ℕ) → label_at t.label b ≡ Outside
  label_is b = same_everywhere size Outside fresh.label b

  pub weight_is : (b : ℕ) → (forest_of t).weight b ≡ get_or lows b (pos 0)
  weight_is b = omega (arith, ints, fresh.base b, ap (λ (l : Label). weight_change l t.delta) (label_is b))

  holds_is : (b v : ℕ) → (forest_of t).holds b v ≡ eqb v b
  holds_is b v = climbs_self _ _ b (up_self v)

  potential_is : (v : ℕ) → v < n → potential (forest_of t) v ≡ get_or lows v (pos 0)
  potential_is v l = total_below_one _ (length t.up) v (rw fresh.up.size (omega arith))
      (λ k lk ne. grind (arith, holds_is k v)) ∙ grind (arith, holds_is v v, weight_is v)

  added_is : (v : ℕ) → added t.hand t.top hid.off t.label t.delta v ≡ pos 0
  added_is v = search (rules, same_everywhere)

  used_low : (x : ℕ) → (x < n) ⊎ (get_or t.parts x 0 ≢ 0) → x < n
  used_low x used = grind (arith, same_everywhere size 0 fresh.parts x)

  rank_is : (x : ℕ) → x < n → get_or t.rank x 0 ≡ 1
  rank_is x l = ap (λ xs. get_or xs x 0) fresh.rank ∙ get_or-replicate size x 1 0 (omega arith)

  -- The tie, where the weights are small: each is the list of itself.
  pub fresh_tied : ((v : ℕ) → unsigned_abs (get_or lows v (pos 0)) ≤ 2 ^ 60) → AreTied t hid
  fresh_tied small = tied_as fresh.hand.size fresh.up.size (omega (arith, ap length fresh.kept, long_as))
      (search (rules, out_is, up_self, used_low, rank_is, climbs_self, walk_fixed)) (record {
        potentials = λ v l. potential_is v (omega arith) ∙ (search (rules, added_is));
        small = λ b. omega (arith, ints, weight_is b, small b);
        start = dual_sum_of (forest_of t);
        small_start = search (rules, sum_small);
        moved = λ v l. omega (arith, ints, added_is v);
        risen = omega (arith, ints, fresh.delta);
        still = λ none. fresh.delta;
      }) (search (rules, none_counted, same_everywhere n false fresh.touched, label_is))
      (search (rules, long_as, same_everywhere, sum_by-replicate, count_below_none))

  module _ (g : WeightedGraph) (is : IsGraph g) (n_is : n ≡ g.n) (costs : AreFeasible g lows) where
    outs : (v : ℕ) → v < g.n → (forest_of t).out v ≡ v
    outs v l = out_is v (omega arith)

    weightless : (b : ℕ) → g.n ≤ b → (forest_of t).weight b ≡ pos 0
    weightless b high = weight_is b ∙ get_or_past lows b (pos 0) (rw (fresh.size_lows ∙ n_is) high)

    outermost : AreOutermost g.n (forest_of t)
    outermost = search (rules, holds_is, label_is)

    -- No load between two vertices is above twice the cost of an edge between them.
    feasible_dart : (u v : ℕ) (c : ℤ) → u < g.n → v < g.n → u ≢ v → (get_or lows u (pos 0) +ℤ get_or lows v (pos 0)) ≤ℤ
        (pos 2 *ℤ c) → weight_between (forest_of t) u v ≤ℤ (c +ℤ c)
    feasible_dart u v c lu lv ne h =
        let load = load_across outermost u v lu lv (λ e. ne (sym (outs u lu) ∙ (e ∙ outs v lv))) in
        omega (arith, ints, potential_is u (omega arith), potential_is v (omega arith))

    -- The forest of single vertices is valid.
    pub fresh_valid : AreStarts g (2 * length g.edges) t.near → t.room ≡ Some (size_of g) → IsValidFor g t
    fresh_valid starts room = record {
      room = room;
      vertices = fresh.hand.size ∙ n_is;
      darts = starts.size;
      ends = starts.each;
      valid = record {
        outermost = outermost;
        nested = search (rules, holds_is, eqb_order, ne_eqb, weightless, up_self, same_everywhere size 0 fresh.parts);
        feasible = record {
          sets = λ b high low. rw (weightless b high) (omega arith);
          darts = λ d low. (let l : d / 2 < length g.edges = omega arith in elim (cases_eq (d % 2) 0) [
            | inl even ↦ search (rules, near_odd, near_even, darts_of, feasible_dart)
            | inr odd ↦ search (rules, near_odd, near_even, twin_odd, darts_of, feasible_dart)
          ]);
        };
        matched = λ b d mate. absurd (cc (sym mate ∙ same_everywhere size None fresh.mate b));
        tree = λ r e. absurd (cc (sym e ∙ fresh.root));
        no_tree = λ e b. label_is b;
        outside = λ b d l mate. absurd (cc (sym mate ∙ same_everywhere size None fresh.mate b));
      };
    }

-- One edge more, at whose ends the numbers are lowered to its cost.
pub one_more_edge : {g : WeightedGraph} {most e : ℕ} {a b d : List ℤ} {x : WEdge} {c1 c2 : ℤ} → HasLowCosts g most e a
    → x ≡ edge_at g e → c1 ≡ x.cost → c2 ≡ x.cost → unsigned_abs (edge_at g e).cost ≤ most → IsLowered a b x.u c1
    → IsLowered b d x.v c2 → HasLowCosts g most (e + 1) d
one_more_edge {g} {e = e} {x = x} has x_is e1 e2 bound l1 l2 = record {
  size = l2.size ∙ (l1.size ∙ has.size);
  small = λ v. omega (arith, ints, l1.from v, l2.from v, has.small v, e1, e2, ap (λ (y : WEdge). y.cost) x_is, bound);
  first = λ k l. grind (arith, ints, l1.below, l2.below, has.first);
  second = λ k l. grind (arith, ints, l1.below, l2.below, has.second);
}

-- The greatest of one cost more.
pub one_more_cost : {g : WeightedGraph} {e most : ℕ} {new : ℕ} (cost : ℕ) → cost ≡ unsigned_abs (edge_at g e).cost
    → new ≡ max most cost → IsGreatestTo g e most → IsGreatestTo g (e + 1) new
one_more_cost {g} {e} {most} {new} cost cost_is new_is was = record {
  above = λ k l. grind arith;
  least = λ c low. omega (arith, was.least c (λ k l. low k (omega (arith, l))), low e (omega arith));
}
