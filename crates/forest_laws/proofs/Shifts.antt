-- What stays where only a set of weight 0 holds other vertices and has other parts than before.
use Rattle.std.proofs.Common.{◌≡◌, ◌≢◌, ℕ, zero, suc, ◌<◌, ◌≤◌, false, cond, ℤ, pos, refl, sym, ◌∙◌, ap, inl}
use Rattle.std.proofs.Common.{inr, arith, Bool, true, eqb, Option, Some, ◌+ℤ◌, ◌-ℤ◌, rules}
use Rattle.std.proofs.lemmas.{Bool.cases_eq, Bool.eq-eqb, Bool.ne_eqb, Int.ints}
use Rattle.sum_laws.proofs.Sums.{total_below_same, total_below_sum, total_below_minus, total_below_none}
use Rattle.sum_laws.proofs.Sums.{total_below_one}
use Rattle.def_forest.specs.Forests.{Forest, weight_between, IsTight, walk, ring_sum, dual_sum_of}
use Rattle.def_forest.specs.Valid.{IsFeasible, IsNested, IsRing, IsJoint, IsTree, IsValid}
use Rattle.def_forest.specs.declared.kinds.Label.TheVariants.{Outer, Inner, Outside}
use Rattle.def_forest.specs.{Darts.Darts, Darts.AreDarts, Darts.far, Opened.KeepsParts, Steps.weight_change}
use Rattle.def_forest.specs.{Steps.shifted, Ways.inner_of, Ways.dart_or, declared.kinds.Label.Label}
use Rattle.forest_laws.proofs.Grows.{inner_named, label_cases, outer_cases, outer_named, far_twin, inner_mate}
use Rattle.forest_laws.proofs.Grows.{named_low, outer_mate, load_apart, load_within, nest_stays}
use Rattle.def_math.specs.Sums.{total_below}

-- Walks and sums along a ring that two tables have in common.
walk_same : (f h : ℕ → ℕ) (a : ℕ) → ((k : ℕ) → h (walk f a k) ≡ f (walk f a k)) → (k : ℕ) → walk h a k ≡ walk f a k
walk_same f h a same zero = refl
walk_same f h a same (suc k) = ap h (walk_same f h a same k) ∙ same k

pub ring_sum_same : (f h : ℕ → ℕ) (p q : ℕ → ℕ) (a b : ℕ) (n : ℕ) → ((k : ℕ) → walk h b k ≡ walk f a k)
    → ((k : ℕ) → p (walk f a k) ≡ q (walk f a k)) → ring_sum f p a n ≡ ring_sum h q b n
ring_sum_same f h p q a b zero walks terms = refl
ring_sum_same f h p q a b (suc n) walks terms = search rules

-- Only set b, of weight 0, holds other vertices and has other parts than before.
pub record ChangesOnly (n : ℕ) (f new : Forest) (b : ℕ) : Type 0 where
  pub high : n ≤ b
  pub size : new.size ≡ f.size
  pub weight : (x : ℕ) → new.weight x ≡ f.weight x
  pub weightless : f.weight b ≡ pos 0
  pub holds : (x v : ℕ) → x ≢ b → v < n → new.holds x v ≡ f.holds x v
  pub sets : (x : ℕ) → x ≢ b → KeepsParts f new x

module _ {g : Darts} (are : AreDarts g) {f new : Forest} {b : ℕ} (changed : ChangesOnly g.n f new b) where
  open changed use {size, weight, holds, sets}

  pub same_load : (u v : ℕ) → u < g.n → v < g.n → weight_between new u v ≡ weight_between f u v
  same_load u v lu lv = grind arith

  pub same_tight : {d : ℕ} → IsTight g f d → IsTight g new d
  same_tight {d} tight = search rules

  pub same_feasible : IsFeasible g f → IsFeasible g new
  same_feasible feasible = search (rules, same_load)

  -- A part of another set lies where it lay.
  pub record StaysOn (p : ℕ) : Type 0 where
    pub other : p ≢ b
    pub up : new.nest.up p ≡ f.nest.up p
    pub after : new.nest.after p ≡ f.nest.after p

  -- The ring of another set stays, where its parts do and no part comes.
  pub same_ring : {c : ℕ} → c ≢ b → IsRing g f c → ((p : ℕ) → f.nest.up p ≡ c → p ≢ c → StaysOn p)
      → ((p : ℕ) → new.nest.up p ≡ c → p ≢ c → f.nest.up p ≡ c) → IsRing g new c
  same_ring {c} ne ring stays back = search (rules, walks, ring_sum_same)
    where
      set : KeepsParts f new c
      set = sets c ne

      at : ℕ → ℕ
      at k = walk f.nest.after (f.nest.head c) k

      old : (k : ℕ) → StaysOn (at k)
      old k = stays (at k) (ring.inside k) (λ e. absurd (omega (arith, ap f.nest.rank e, ring.lower k)))

      walks : (k : ℕ) → walk new.nest.after (new.nest.head c) k ≡ at k
      walks k = rw set.head (walk_same f.nest.after new.nest.after (f.nest.head c) (λ j. (old j).after) k)

  -- A joint of another set stays, where it still leads from an outermost blossom to itself.
  pub same_joint : {p : ℕ} → p ≢ b → f.nest.after p ≢ b → new.nest.after p ≡ f.nest.after p
      → new.nest.joint p ≡ f.nest.joint p → new.out (g.near (f.nest.joint p)) ≡ new.out (far g (f.nest.joint p))
      → IsJoint g f p → IsJoint g new p
  same_joint {p} ne next after joint same old = search rules

  -- The nest stays in order, where set b and the parts are in order.
  pub same_nested : IsNested g f → (new.nest.parts b ≢ 0 → IsRing g new b)
      → ((v : ℕ) → v < g.n → new.nest.parts b ≡ 0 → new.holds b v ≡ false)
      → ((c : ℕ) → c ≢ b → IsRing g f c → IsRing g new c)
      → ((p : ℕ) → new.nest.up p ≢ p → (g.n ≤ new.nest.up p) × (new.nest.parts (new.nest.up p) ≢ 0))
      → ((p : ℕ) → new.nest.up p ≢ p → IsJoint g new p) → IsNested g new
  same_nested nested ring_b empty_b ring_old live joints = record {
    alone = λ v w lv lw. holds v w (λ e. absurd (omega arith)) lw ∙ nested.alone v w lv lw;
    rings = λ c high live. elim (cases_eq c b) [ inl e ↦ rw e (ring_b (rw e at live)) | inr ne ↦ search rules ];
    empty = λ c v high low none.
        grind (arith, empty_b v low, holds c v, nested.empty c v, λ (ne : c ≢ b). (sets c ne).many);
    weightless = λ c high none. grind (arith, weight c, nested.weightless c, λ (ne : c ≢ b). (sets c ne).many);
    live = live;
    joints = joints;
  }

-- A shift with a feasible end keeps a forest valid, and raises the dual's sum: the tree has one outer blossom more than
-- inner ones.

module _ {g : Darts} (are : AreDarts g) {f : Forest} {root : Option ℕ} (valid : IsValid g f root) (t : ℤ) where
  -- A tight dart whose ends move against each other, or lie in one blossom, stays tight.
  still_tight : {d : ℕ} → IsTight g f d
      → (f.out (g.near d) ≢ f.out (far g d) → weight_change (f.label (f.out (g.near d))) t +ℤ weight_change
      (f.label (f.out (far g d))) t ≡ pos 0) → IsTight g (shifted f t) d
  still_tight {d} tight none = grind (
    arith,
    load_within valid.outermost t (g.near d) (far g d),
    load_apart valid.outermost t (g.near d) (far g d),
  )

  shifted_tree : {r : ℕ} → IsTree g f r → IsTree g (shifted f t) r
  shifted_tree tree = record {
    depth = tree.depth;
    root_outer = tree.root_outer;
    root_free = tree.root_free;
    inner = λ b l. (let is = tree.inner b l in
        let tight = still_tight is.tight (λ ne. rw (is.here, l, is.above) (omega (arith, ints))) in
        search rules);
    outer = tree.outer;
  }

  shifted_nest : IsNested g (shifted f t)
  shifted_nest = nest_stays valid.nested (λ b high none. elim (label_cases (f.label b)) [
    | inl off ↦ rw off (omega (arith, ints, valid.nested.weightless b high none))
    | inr named ↦ (let w = valid.outermost.named b named in
        search (rules, valid.outermost.held w.0 w.0, valid.nested.empty b w.0))
  ]) (λ p is. still_tight is.tight (λ ne. absurd (ne is.same)))

  -- A shift whose end is feasible keeps the forest valid.
  pub shift_valid : IsFeasible g (shifted f t) → IsValid g (shifted f t) root
  shift_valid feasible = record {
    outermost = search rules;
    nested = shifted_nest;
    feasible = feasible;
    matched = λ b d mate. (let is = valid.matched b d mate in
        let outer = outer_mate are valid b d in
        let inner = inner_mate are valid b d in
        let tight = still_tight is.tight (λ ne. search (rules, ints, outer, inner, valid.outside b d)) in
        assumption);
    tree = λ r e. shifted_tree (valid.tree r e);
    no_tree = valid.no_tree;
    outside = valid.outside;
  }

-- The order of two sums does not matter.
pub sums_exchanged : (f : ℕ → ℕ → ℤ) (m n : ℕ) → total_below (λ i. total_below (f i) m) n
    ≡ total_below (λ j. total_below (λ i. f i j) n) m
sums_exchanged f m zero = sym (total_below_none (λ j. pos 0) m (λ k l. refl))
sums_exchanged f m (suc n) =
    omega (arith, ints, sums_exchanged f m n, total_below_sum (λ j. total_below (λ i. f i j) n) (f n) m)

-- The inner blossoms.
abbrev pub is_inner : (l : Label) → Bool
is_inner Inner = true
is_inner Outer = false
is_inner Outside = false

-- The sum of what stands at one place only, or nowhere.
sum_at : (t : ℤ) (on : Bool) {x n : ℕ} → (on ≡ true → x < n)
    → total_below (λ b. cond on (cond (eqb b x) t (pos 0)) (pos 0)) n ≡ cond on t (pos 0)
sum_at t true {x} {n} l = total_below_one (λ b. cond (eqb b x) t (pos 0)) n x (l refl) (λ k lk ne. rw (ne_eqb k x ne))
    ∙ rw (eq-eqb x x refl)
sum_at t false {x} {n} l = total_below_none (λ b. pos 0) n (λ b lb. refl)

module _ {g : Darts} (are : AreDarts g) {f : Forest} {r : ℕ} (valid : IsValid g f (Some r)) (tree : IsTree g f r)
    (t : ℤ) where
  -- What a place counts for at another.
  abbrev hit : ℕ → ℕ → ℤ
  hit x b = cond (eqb b x) t (pos 0)

  hit_same : (x b : ℕ) → b ≡ x → hit x b ≡ t
  hit_same x b e = rw (eq-eqb b x e)

  hit_other : (x b : ℕ) → (b ≡ x → ⊥) → hit x b ≡ pos 0
  hit_other x b ne = rw (ne_eqb b x ne)

  -- What an inner blossom counts for at a place: something where its mate is.
  abbrev pair_at : ℕ → ℕ → ℤ
  pair_at b c = cond (is_inner (f.label c)) (hit (inner_of g f c) b) (pos 0)

  -- The mate of an inner blossom, as the function has it.
  child_is : {c : ℕ} (inner : f.label c ≡ Inner) → inner_of g f c ≡ f.out (far g (tree.inner c inner).dart)
  child_is {c} inner = ap (λ o. f.out (far g (dart_or o))) (tree.inner c inner).mate

  child_outer : {c : ℕ} → f.label c ≡ Inner → f.label (inner_of g f c) ≡ Outer
  child_outer {c} inner = ap f.label (child_is inner) ∙ (tree.inner c inner).child

  child_mate : {c : ℕ} (inner : f.label c ≡ Inner) → f.mate (inner_of g f c) ≡ Some (g.twin (tree.inner c inner).dart)
  child_mate {c} inner = search (rules, tree.inner c inner, valid.matched c)

  pair_none : {b c : ℕ} → (f.label c ≡ Inner → inner_of g f c ≡ b → ⊥) → pair_at b c ≡ pos 0
  pair_none {b} {c} off = grind (arith, ints)

  -- At an outer blossom but for the root the inner one to which it is matched counts, and elsewhere none.
  at_place : (b : ℕ) → b < f.size → total_below (pair_at b) f.size
      ≡ (weight_change (f.label b) t +ℤ cond (is_inner (f.label b)) t (pos 0)) -ℤ hit r b
  at_place b lb = elim (outer_cases (f.label b)) [
    | inl outer ↦ rw outer (elim (tree.outer b outer) [
      | inl e ↦ (let none = total_below_none (pair_at b) f.size (λ c lc. pair_none
          (λ inner at. cc (child_mate inner, tree.root_free))) in
          omega (arith, ints, hit_same r b e))
      | inr w ↦ (let c0 = f.out _ in
          let pair = valid.matched b _ w.1 in
          let back = ap (λ o. f.out (far g (dart_or o))) pair.back ∙ ap f.out (far_twin are _) ∙ pair.here in
          let one = total_below_one (pair_at b) _ c0 (named_low are valid (inner_named w.2)) (λ c lc ne. pair_none
          (λ inner at. (search (rules, valid.matched c)))) in
          search (rules, hit_same, inner_of, hit_other))
    ])
    | inr ne ↦ (let none = total_below_none (pair_at b) f.size (search (rules, child_outer)) in
        omega (arith, ints, change_off _ ne, hit_other r b (λ e. ne (ap f.label e ∙ tree.root_outer))))
  ]
    where
      change_off : (l : Label) → l ≢ Outer → weight_change l t +ℤ cond (is_inner l) t (pos 0) ≡ pos 0
      change_off l ne = grind (arith, ints)

  -- An inner blossom counts once.
  once : (c : ℕ) → c < f.size → total_below (λ b. pair_at b c) f.size ≡ cond (is_inner (f.label c)) t (pos 0)
  once c lc = sum_at t (is_inner (f.label c)) (λ on. named_low are valid (outer_named (child_outer (grind arith))))

  -- The sum of the changes.
  changes : total_below (λ b. weight_change (f.label b) t) f.size ≡ t
  changes =
      let inner = λ (b : ℕ). cond (is_inner (f.label b)) t (pos 0) in
      let change = λ (b : ℕ). weight_change (f.label b) t in
      let places = total_below_same _ _ _ at_place in
      let pairs = total_below_same _ _ _ once in
      let root = sum_at t true (λ _. named_low are valid (outer_named tree.root_outer)) in
      let orders = sums_exchanged pair_at f.size f.size in
      let parts = total_below_minus (λ b. change b +ℤ inner b) (hit r) f.size in
      omega (arith, ints, total_below_sum change inner f.size)

  -- A shift raises the sum by t.
  pub sum_rises : dual_sum_of (shifted f t) ≡ dual_sum_of f +ℤ t
  sum_rises = omega (arith, ints, changes, total_below_sum f.weight (λ b. weight_change (f.label b) t) f.size)
