-- The potentials of the vertices of one blossom have one parity, and so have those of all vertices in the tree.
use Rattle.std.proofs.Common.{rules, ◌≡◌, ℕ, zero, suc, ◌<◌, ◌≤◌, Bool, true, not, cond, length, Option, ℤ, pos, ◌+ℤ◌}
use Rattle.std.proofs.Common.{◌-ℤ◌, refl, sym, ◌∙◌, ap, inl, inr, arith, ◌≢◌, ◌+◌, false, ◌||◌, eqb}
use Rattle.std.proofs.lemmas.Bool.{cases_lt, cases_eq, eq-eqb, eqb-true}
use Rattle.{std.proofs.lemmas.Int.ints, forest_laws.proofs.Bounds.are_darts}
use Rattle.def_matching.specs.Matching.{WeightedGraph, IsGraph, edge_at}
use Rattle.def_forest.specs.Forests.{Forest, splits, IsTight, bool_number, walk, ring_sum}
use Rattle.def_forest.specs.{Darts.Darts, Darts.AreDarts, Darts.darts_of, Darts.far, Tables.slack_of, Valid.IsNested}
use Rattle.def_forest.specs.{Valid.IsRing, Valid.IsJoint, Valid.IsTree, Valid.IsValid}
use Rattle.def_forest.specs.{declared.kinds.Label.TheVariants.Outer}
use Rattle.forest_laws.proofs.Grows.{far_low, tree_of, potential, outer_named, true_false}
use Rattle.{def_math.specs.Sums.total_below, forest_laws.specs.Walks.listed, forest_laws.specs.Walks.writes}

-- Two numbers have one parity.
pub record AreAlike (a b : ℤ) : Type 0 where
  pub half : ℤ
  pub is : (a -ℤ b) ≡ (half +ℤ half)

pub alike_self : (a : ℤ) → AreAlike a a
alike_self a = record { half = pos 0; is = omega (arith, ints) }

alike_back : {a b : ℤ} → AreAlike a b → AreAlike b a
alike_back {a} {b} p = record { half = pos 0 -ℤ p.half; is = omega (arith, ints, p.is) }

pub alike_on : {a b c : ℤ} → AreAlike a b → AreAlike b c → AreAlike a c
alike_on {a} {b} {c} p q = record { half = p.half +ℤ q.half; is = omega (arith, ints, p.is, q.is) }

-- What lies around both of two vertices.
abbrev around_both : (f : Forest) (u v b : ℕ) → ℤ
around_both f u v b = cond (f.holds b u) (cond (f.holds b v) (f.weight b) (pos 0)) (pos 0)

by_both : (p q : Bool) (x : ℤ) → cond p x (pos 0) +ℤ cond q x (pos 0)
    ≡ cond (cond p (not q) q) x (pos 0) +ℤ (cond p (cond q x (pos 0)) (pos 0) +ℤ cond p (cond q x (pos 0)) (pos 0))
by_both p q x = grind (arith, ints)

-- Two potentials are a load and twice what lies around both vertices.
sums_both : (f : Forest) (u v m : ℕ) → total_below (λ b. cond (f.holds b u) (f.weight b) (pos 0)) m +ℤ total_below
    (λ b. cond (f.holds b v) (f.weight b) (pos 0)) m ≡ total_below (λ b. cond (splits (f.holds b) u v) (f.weight b)
    (pos 0)) m +ℤ (total_below (around_both f u v) m +ℤ total_below (around_both f u v) m)
sums_both f u v zero = omega (arith, ints)
sums_both f u v (suc m) = omega (arith, ints, sums_both f u v m, by_both (f.holds m u) (f.holds m v) (f.weight m))

-- Where a sum along a ring is not 0, one of its terms is not.
ring_found : (next f : ℕ → ℕ) (front n : ℕ) → 1 ≤ ring_sum next f front n → (k : ℕ) × (k < n)
    × (1 ≤ f (walk next front k))
ring_found next f front zero l = absurd (omega arith)
ring_found next f front (suc n) l = search (rules, cases_lt 0 (f (walk next front n)), ring_found next f front n)

module _ {g : Darts} (are : AreDarts g) (f : Forest) where
  -- The ends of a tight dart.
  pub tight_alike : {d : ℕ} → IsTight g f d → AreAlike (potential f (g.near d)) (potential f (far g d))
  tight_alike {d} tight =
      let both = total_below (around_both f (g.near d) (far g d)) f.size in
      let sum = sums_both f (g.near d) (far g d) f.size in
      record { half = (g.cost d +ℤ both) -ℤ potential f (far g d); is = omega (arith, ints, sum, tight.exact) }

  module _ (nested : IsNested g f) where
    -- The parts of a ring, and the vertices where its joints begin.
    abbrev part : ℕ → ℕ → ℕ
    part b k = walk f.nest.after (f.nest.head b) k

    abbrev start : ℕ → ℕ → ℕ
    start b k = g.near (f.nest.joint (part b k))

    abbrev Within : ℕ → Type 0
    Within b = (u v : ℕ) → u < g.n → v < g.n → f.holds b u ≡ true → f.holds b v ≡ true
        → AreAlike (potential f u) (potential f v)

    module _ {b : ℕ} (ring : IsRing g f b) (more : (k : ℕ) → Within (part b k)) where
      joint : (k : ℕ) → IsJoint g f (part b k)
      joint k = search rules

      starts_alike : (k : ℕ) → AreAlike (potential f (start b 0)) (potential f (start b k))
      starts_alike zero = alike_self (potential f (start b 0))
      starts_alike (suc k) = alike_on (starts_alike k) (alike_on (tight_alike (joint k).tight)
          (more (suc k) (far g _) (start b (suc k)) (far_low g are _ (joint k).tight.low)
          (are.near_low _ (joint (suc k)).tight.low) (joint k).ends (joint (suc k)).begins))

      to_start : (u : ℕ) → u < g.n → f.holds b u ≡ true → AreAlike (potential f u) (potential f (start b 0))
      to_start u lu hu =
          let w = ring_found f.nest.after (λ p. bool_number (f.holds p u)) (f.nest.head b) (f.nest.parts b)
          (rw (← ring.shared u lu, hu) (omega arith)) in
          alike_on (search (rules, are.near_low, joint)) (alike_back (starts_alike w.0))

    within : (fuel b : ℕ) → f.nest.rank b < fuel → Within b
    within zero b l u v lu lv hu hv = absurd (omega arith)
    within (suc fuel) b l u v lu lv hu hv = elim (cases_lt b g.n) [
      | inl low ↦ search (rules, eqb-true b u, eqb-true b v, alike_self)
      | inr high ↦ (let ring = nested.rings b high (λ none. true_false hu (nested.empty b u high lu none)) in
          let to = to_start ring (λ k. within fuel (part b k) (omega (arith, ring.lower k))) in
          alike_on (to u lu hu) (alike_back (to v lv hv)))
    ]

  module _ {root : Option ℕ} (valid : IsValid g f root) where
    -- Two vertices with one outermost blossom.
    pub together_alike : (u v : ℕ) → u < g.n → v < g.n → f.out u ≡ f.out v → AreAlike (potential f u) (potential f v)
    together_alike u v lu lv e = within valid.nested (suc (f.nest.rank (f.out u))) (f.out u) (omega arith) u v lu lv
        (search rules) (valid.outermost.held u v lu lv ∙ eq-eqb (f.out v) (f.out u) (sym e))

    module _ {r : ℕ} (tree : IsTree g f r) (w : ℕ) (lw : w < g.n) (at_root : f.out w ≡ r) where
      -- The two ends of a dart, and what lies with them.
      over : {d : ℕ} (u v : ℕ) → IsTight g f d → u < g.n → v < g.n → f.out u ≡ f.out (g.near d) → f.out (far g d)
          ≡ f.out v → AreAlike (potential f u) (potential f v)
      over {d} u v tight lu lv eu ev = alike_on (together_alike u (g.near d) lu (are.near_low d tight.low) eu)
          (alike_on (tight_alike tight) (together_alike (far g d) v (far_low g are d tight.low) lv ev))

      outer_alike : (fuel u : ℕ) → u < g.n → f.label (f.out u) ≡ Outer → tree.depth (f.out u) < fuel
          → AreAlike (potential f u) (potential f w)
      outer_alike zero u lu label l = absurd (omega arith)
      outer_alike (suc fuel) u lu label l = elim (tree.outer (f.out u) label) [
        | inl e ↦ together_alike u w lu lw (e ∙ sym at_root)
        | inr m ↦ (let pair = valid.matched (f.out u) m.0 m.1 in
            let is = tree.inner (f.out (far g _)) m.2 in
            let link = f.link (f.out (far g _)) in
            let near = are.near_low link is.tight.low in
            let level : tree.depth (f.out u) ≡ tree.depth (f.out (far g m.0)) = cc (are.twin_twin m.0) in
            let more = outer_alike fuel (far g _) (far_low g are _ is.tight.low) is.above (omega arith) in
            alike_on (over u _ pair.tight lu near (sym pair.here) (sym is.here)) (alike_on (tight_alike is.tight) more))
      ]

      pub to_root : (u : ℕ) → u < g.n → f.label (f.out u) ≡ Outer → AreAlike (potential f u) (potential f w)
      to_root u lu label = outer_alike (suc (tree.depth (f.out u))) u lu label (omega arith)

-- The slack between two outer blossoms is even.
pub slack_even : (g : WeightedGraph) (f : Forest) (root : Option ℕ) (e : ℕ) → IsGraph g → IsValid (darts_of g) f root
    → e < length g.edges → f.label (f.out (edge_at g e).u) ≡ Outer → f.label (f.out (edge_at g e).v) ≡ Outer
    → (half : ℤ) × (slack_of g f e ≡ half +ℤ half)
slack_even g f root e is valid low on_u on_v =
    let u = (edge_at g e).u in
    let v = (edge_at g e).v in
    let t = tree_of (are_darts is) valid (f.out u) (outer_named on_u) in
    let x = valid.outermost.named t.0 (outer_named t.2.root_outer) in
    let to = to_root (are_darts is) f valid t.2 x.0 x.1 x.2 in
    let p = alike_on (to u (is.left e low) on_u) (alike_back (to v (is.right e low) on_v)) in
    let both = total_below (around_both f u v) f.size in
    (((edge_at g e).cost +ℤ both) -ℤ (p.half +ℤ potential f v), omega (arith, ints, p.is, sums_both f u v f.size))

-- What a walk comes past, a function that is written at the places of a walk, and closed walks.

-- A walk in two parts, and one that has come to stay.
pub walk_sum : (f : ℕ → ℕ) (a i j : ℕ) → walk f a (i + j) ≡ walk f (walk f a i) j
walk_sum f a i zero = let e : i + 0 ≡ i = omega arith in ap (walk f a) e
walk_sum f a i (suc j) = let e : i + suc j ≡ suc (i + j) = omega arith in ap (walk f a) e ∙ ap f (walk_sum f a i j)

-- One comes past each place of the walk.
pub listed_at : (next : ℕ → ℕ) (from many k : ℕ) → k < many → listed next from many (walk next from k) ≡ true
listed_at next from zero k l = absurd (omega arith)
listed_at next from (suc many) k l = grind (arith, listed_at next from many k)

-- And past no other.
pub listed_place : (next : ℕ → ℕ) (from many x : ℕ) → listed next from many x ≡ true → (k : ℕ) × (k < many)
    × (walk next from k ≡ x)
listed_place next from zero x on = absurd (cc on)
listed_place next from (suc many) x on = search (rules, listed_place next from many x)

pub listed_off : (next : ℕ → ℕ) (from many x : ℕ) → ((k : ℕ) → k < many → walk next from k ≢ x)
    → listed next from many x ≡ false
listed_off next from zero x off = refl
listed_off next from (suc many) x off = search (rules, listed_off next from many x (λ k l. off k (omega arith)))

-- A walk that is closed stays among its places.
pub listed_closed : (next : ℕ → ℕ) {from : ℕ} (many : ℕ) → 1 ≤ many → walk next from many ≡ from → (k : ℕ)
    → listed next from many (walk next from k) ≡ true
listed_closed next zero some closed k = absurd (omega arith)
listed_closed next (suc m) some closed zero = listed_at next _ (suc m) 0 some
listed_closed next {from} (suc m) some closed (suc k) =
    let w = listed_place next from (suc m) _ (listed_closed next (suc m) some closed k) in
    grind (arith, cases_eq w.0 m, listed_at next from (suc m) (suc w.0), listed_at next from (suc m) 0)

-- A walk past different places counts each once.
pub listed_sum : (next : ℕ → ℕ) (from many y : ℕ) → ((i j : ℕ) → i < j → j < many → walk next from i ≢ walk next from j)
    → bool_number (listed next from many y) ≡ ring_sum next (λ p. bool_number (eqb y p)) from many
listed_sum next from zero y distinct = refl
listed_sum next from (suc many) y distinct =
    grind (arith, listed_sum next from many y, listed_off next from many (walk next from many))

-- What is written at one of different places stands there, and elsewhere nothing is changed.
pub writes_at : {X : Type 0} (f : ℕ → X) (place : ℕ → ℕ) (value : ℕ → X) (many k : ℕ) → k < many
    → ((i j : ℕ) → i < j → j < many → place i ≢ place j) → writes f place value many (place k) ≡ value k
writes_at f place value zero k l distinct = absurd (omega arith)
writes_at f place value (suc many) k l distinct =
    let was = λ (low : k < many). writes_at f place value many k low (λ i j lij lj. distinct i j lij (omega arith)) in
    grind (arith, distinct k many)

pub writes_off : {X : Type 0} (f : ℕ → X) (place : ℕ → ℕ) (value : ℕ → X) (many x : ℕ)
    → ((k : ℕ) → k < many → place k ≢ x) → writes f place value many x ≡ f x
writes_off f place value zero x off = refl
writes_off f place value (suc many) x off = search (rules, writes_off f place value many x (λ k l. off k (omega arith)))

-- A walk from the next place, and one from where one stays.
pub walk_front : (f : ℕ → ℕ) (a k : ℕ) → walk f a (suc k) ≡ walk f (f a) k
walk_front f a zero = refl
walk_front f a (suc k) = ap f (walk_front f a k)

pub walk_fixed : (f : ℕ → ℕ) {a : ℕ} (k : ℕ) → f a ≡ a → walk f a k ≡ a
walk_fixed f zero e = refl
walk_fixed f (suc k) e = ap f (walk_fixed f k e) ∙ e

-- What one comes past in two parts of a walk.
pub listed_parts : (next : ℕ → ℕ) (from m k x : ℕ) → listed next from (m + k) x
    ≡ (listed next from m x || listed next (walk next from m) k x)
listed_parts next from m zero x = search rules
listed_parts next from m (suc k) x =
    let e : m + suc k ≡ suc (m + k) = omega arith in
    grind (arith, listed_parts next from m k x, walk_sum next from m k)

-- A function that is written with one value at all places of a walk.
pub writes_all : {X : Type 0} (f : ℕ → X) (next : ℕ → ℕ) (from many : ℕ) (y : X) (x : ℕ)
    → writes f (walk next from) (λ j. y) many x ≡ cond (listed next from many x) y (f x)
writes_all f next from zero y x = refl
writes_all f next from (suc k) y x = grind (arith, writes_all f next from k y x)

-- So many places follow each other round and round, and they are those that are marked.
pub record IsCircle (next : ℕ → ℕ) (front many : ℕ) (inside : ℕ → Bool) : Type 0 where
  pub some : 1 ≤ many
  pub closed : walk next front many ≡ front
  pub distinct : (i j : ℕ) → i < j → j < many → walk next front i ≢ walk next front j
  pub marked : (k : ℕ) → inside (walk next front k) ≡ true
  pub all : (x : ℕ) → inside x ≡ true → (k : ℕ) × (k < many) × (walk next front k ≡ x)

-- A circle may begin one place later, and so at each of its places.
circle_on : (next : ℕ → ℕ) (front many : ℕ) (inside : ℕ → Bool) → IsCircle next front many inside
    → IsCircle next (next front) many inside
circle_on next front zero inside circle = absurd (omega (arith, circle.some))
circle_on next front (suc m) inside circle = record {
  some = circle.some;
  closed = sym (walk_front next front (suc m)) ∙ ap next circle.closed;
  distinct = λ i j l h e. (let here = walk_front next front i in let there = walk_front next front j in
      grind (arith, cases_eq j m, circle.closed, circle.distinct (suc i) (suc j), circle.distinct 0 (suc i)));
  marked = λ k. ap inside (sym (walk_front next front k)) ∙ circle.marked (suc k);
  all = λ x on. found (circle.all x on);
}
  where
    found : {x : ℕ} → (k : ℕ) × (k < suc m) × (walk next front k ≡ x)
        → (k : ℕ) × (k < suc m) × (walk next (next front) k ≡ x)
    found (zero, l, is) = (m, omega arith, sym (walk_front next front m) ∙ circle.closed ∙ is)
    found (suc k, l, is) = (k, omega arith, sym (walk_front next front k) ∙ is)

pub circle_from : (next : ℕ → ℕ) (front many : ℕ) (inside : ℕ → Bool) → IsCircle next front many inside → (x : ℕ)
    → inside x ≡ true → IsCircle next x many inside
circle_from next front many inside circle x on = let w = circle.all x on in rw w.2 at (at w.0)
  where
    at : (k : ℕ) → IsCircle next (walk next front k) many inside
    at zero = circle
    at (suc k) = circle_on next _ many inside (at k)
