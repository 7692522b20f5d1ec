-- A function with another value at one place; cases on labels; tests as terms of sums.
use Rattle.std.proofs.Common.{◌∙◌, sym, ◌≡◌, ◌≢◌, ℕ, Bool, true, false, not, cond, eqb, Option, Some, None, ℤ, pos}
use Rattle.std.proofs.Common.{◌+ℤ◌, ◌⊎◌, refl, inl, inr, arith, ◌<◌, ap, suc, ◌≤◌, rules}
use Rattle.std.proofs.lemmas.{Bool.cond-true, Bool.cond-false, Bool.eq-eqb, Bool.ne_eqb, Int.ints}
use Rattle.def_forest.specs.Forests.{set_at, Forest, weight_between, splits, IsTight, IsOutermost}
use Rattle.def_forest.specs.declared.kinds.Label.TheVariants.{Outer, Inner, Outside}
use Rattle.def_forest.specs.Valid.{AreOutermost, IsFeasible, IsMatched, IsNested, IsTree, IsValid, KeepsOutside}
use Rattle.def_forest.specs.Valid.{IsJoint, IsMate, IsInner, IsOuter}
use Rattle.def_forest.specs.{declared.kinds.Label.Label, Steps.weight_change, Steps.shifted, Steps.rooted, Steps.grown}
use Rattle.def_forest.specs.{Darts.Darts, Darts.AreDarts, Darts.far, Ways.Reaches}
use Rattle.def_math.specs.Sums.{total_below}
use Rattle.sum_laws.proofs.Sums.{total_below_same, total_below_sum, total_below_none, total_below_one}

-- At the place.
pub set_here : {X : Type 0} (f : ℕ → X) (k : ℕ) (x : X) → set_at f k x k ≡ x
set_here f k x = cond-true (eqb k k) x (f k) (eq-eqb k k refl)

-- At any other place.
pub set_there : {X : Type 0} (f : ℕ → X) (k j : ℕ) (x : X) → j ≢ k → set_at f k x j ≡ f j
set_there f k j x ne = cond-false (eqb j k) x (f j) (ne_eqb j k ne)

-- What stands in two options that are equal is equal.
pub some_is : (a b : ℕ) → Some a ≡ Some b → a ≡ b
some_is a b e = cc

pub option_cases : (o : Option ℕ) → (o ≡ None) ⊎ ((d : ℕ) × (o ≡ Some d))
option_cases None = inl refl
option_cases (Some d) = inr (d, refl)

-- A blossom is outside the tree or not.
pub label_cases : (l : Label) → (l ≡ Outside) ⊎ (l ≢ Outside)
label_cases l = search rules

pub outer_cases : (l : Label) → (l ≡ Outer) ⊎ (l ≢ Outer)
outer_cases l = search rules

-- The labels differ.
pub outer_named : {l : Label} → l ≡ Outer → l ≢ Outside
outer_named e off = cc

pub inner_named : {l : Label} → l ≡ Inner → l ≢ Outside
inner_named e off = cc

-- Two sets that have nothing in common: what lies in just one of them.
pub by_two : (p q : Bool) (x : ℤ) → (p ≡ true → q ≡ true → ⊥) → cond (cond p (not q) q) x (pos 0)
    ≡ cond p x (pos 0) +ℤ cond q x (pos 0)
by_two p q x off = grind (arith, ints)

-- Nothing lies in just one of two equal sets.
pub by_same : (p q : Bool) (x : ℤ) → p ≡ q → cond (cond p (not q) q) x (pos 0) ≡ pos 0
by_same p q x e = grind (arith, ints)

-- A test with nothing on either side.
pub by_none : (p : Bool) → cond p (pos 0) (pos 0) ≡ pos 0
by_none p = grind arith

-- True is not false.
pub true_false : {b : Bool} → b ≡ true → b ≡ false → ⊥
true_false on off = cc

-- How a shift changes loads, and that a load across two outermost blossoms is a sum of two potentials.

-- A load is the same in both directions.
pub load_order : (f : Forest) (u v : ℕ) → weight_between f u v ≡ weight_between f v u
load_order f u v = search rules

-- The sum of the weights of the blossoms around a vertex.
abbrev pub potential : (f : Forest) (v : ℕ) → ℤ
potential f v = total_below (λ b. cond (f.holds b v) (f.weight b) (pos 0)) f.size

module _ {n : ℕ} {f : Forest} (top : AreOutermost n f) where
  -- A blossom with a place in the tree holds the vertices whose outermost blossom it is.
  pub named_holds : (b v : ℕ) → v < n → f.label b ≢ Outside → f.holds b v ≡ eqb (f.out v) b
  named_holds b v low named = let w = top.named b named in rw w.2 at (top.held w.0 v w.1 low)

  -- A shift changes no load inside an outermost blossom.
  pub load_within : (t : ℤ) (u v : ℕ) → u < n → v < n → f.out u ≡ f.out v → weight_between (shifted f t) u v
      ≡ weight_between f u v
  load_within t u v lu lv same =
      let none = total_below_none (λ b. cond (splits (f.holds b) u v) (weight_change (f.label b) t) (pos 0)) f.size
      (λ b l. grind (arith, named_holds b u lu, named_holds b v lv)) in
      search (rules, ints, total_below_same, total_below_sum)

  -- The load across two outermost blossoms is the sum of the potentials of both ends.
  pub load_across : (u v : ℕ) → u < n → v < n → f.out u ≢ f.out v → weight_between f u v
      ≡ potential f u +ℤ potential f v
  load_across u v lu lv ne = total_below_same _ _ f.size (search rules) ∙ total_below_sum _ _ f.size

  -- A shift changes the potential of a vertex as it changes the weight of its outermost blossom.
  pub potential_shifted : (t : ℤ) (v : ℕ) → v < n → potential (shifted f t) v
      ≡ potential f v +ℤ weight_change (f.label (f.out v)) t
  potential_shifted t v l =
      let around = λ (b : ℕ). cond (f.holds b v) (f.weight b) (pos 0) in
      let change = λ (b : ℕ). cond (f.holds b v) (weight_change (f.label b) t) (pos 0) in
      let both = total_below_same (λ b. cond (f.holds b v) (f.weight b +ℤ weight_change (f.label b) t) (pos 0))
      (λ b. around b +ℤ change b) f.size (λ b lb. grind (arith, ints)) in
      let own = total_below_one change f.size (f.out v) (top.out_low v l) (search rules) in
      search (rules, total_below_sum)

-- A shift changes the load across two outermost blossoms by what it changes of both.
pub load_apart : {n : ℕ} {f : Forest} → AreOutermost n f → (t : ℤ) (u v : ℕ) → u < n → v < n → f.out u ≢ f.out v
    → weight_between (shifted f t) u v
    ≡ weight_between f u v +ℤ (weight_change (f.label (f.out u)) t +ℤ weight_change (f.label (f.out v)) t)
load_apart {n} {f} top t u v lu lv ne =
    let there : AreOutermost n (shifted f t) = assumption in
    let before = load_across top u v lu lv ne in
    omega (arith, ints, load_across there u v lu lv ne, potential_shifted top t u lu, potential_shifted top t v lv)

-- What follows at once from a forest's validity.

-- Where a dart ends there is a vertex.
pub far_low : (g : Darts) → AreDarts g → (d : ℕ) → d < g.count → far g d < g.n
far_low g are d low = are.near_low (g.twin d) (are.twin_low d low)

-- The twin of a dart ends where the dart begins.
pub far_twin : {g : Darts} → AreDarts g → (d : ℕ) → far g (g.twin d) ≡ g.near d
far_twin {g} are d = ap g.near (are.twin_twin d)

-- The twin of a tight dart is tight.
pub tight_twin : {g : Darts} → AreDarts g → {f : Forest} {d : ℕ} → IsTight g f d → IsTight g f (g.twin d)
tight_twin {g} are {f} {d} tight = search rules

-- What is in order at each blossom of a valid forest with a tree: its mate, and where it stands.
pub record IsInOrder (g : Darts) (f : Forest) (r : ℕ) (depth : ℕ → ℕ) (b : ℕ) : Type 0 where
  pub matched : (d : ℕ) → f.mate b ≡ Some d → IsMate g f b d
  pub inner : f.label b ≡ Inner → IsInner g f depth b
  pub outer : f.label b ≡ Outer → IsOuter g f r b
  pub outside : (d : ℕ) → f.label b ≡ Outside → f.mate b ≡ Some d → f.label (f.out (far g d)) ≡ Outside

-- A forest with a tree is valid where its root is free and each blossom is in order.
pub tree_valid : {g : Darts} {f : Forest} {r : ℕ} (depth : ℕ → ℕ) → AreOutermost g.n f → IsNested g f → IsFeasible g f
    → f.label r ≡ Outer → f.mate r ≡ None → ((b : ℕ) → IsInOrder g f r depth b) → IsValid g f (Some r)
tree_valid {g} {f} {r} depth outermost nested feasible root_outer root_free order =
    let tree : IsTree g f r = record {
      depth = depth;
      root_outer = root_outer;
      root_free = root_free;
      inner = λ b. (order b).inner;
      outer = λ b. (order b).outer;
    } in
    let matched : IsMatched g f = λ b. (order b).matched in
    let outside : KeepsOutside g f = λ b. (order b).outside in
    search rules

module _ {g : Darts} (are : AreDarts g) {f : Forest} {root : Option ℕ} (valid : IsValid g f root) where
  -- Where a blossom has a place in the tree there is one.
  pub tree_of : (b : ℕ) → f.label b ≢ Outside → (r : ℕ) × (root ≡ Some r) × IsTree g f r
  tree_of b named = search rules

  pub named_low : {b : ℕ} → f.label b ≢ Outside → b < f.size
  named_low {b} named = let w = valid.outermost.named b named in rw w.2 at (valid.outermost.out_low w.0 w.1)

  -- The mate of an inner blossom is outer.
  pub inner_mate : (b d : ℕ) → f.label b ≡ Inner → f.mate b ≡ Some d → f.label (f.out (far g d)) ≡ Outer
  inner_mate b d label mate = search (rules, tree_of)

  -- The mate of an outer blossom is inner.
  pub outer_mate : (b d : ℕ) → f.label b ≡ Outer → f.mate b ≡ Some d → f.label (f.out (far g d)) ≡ Inner
  outer_mate b d label mate = search (rules, tree_of)

-- A tree that begins, and a tree that grows, keep a forest valid.

-- Only weights, labels, mates and links differ.
abbrev pub replaced : (f : Forest) (weight : ℕ → ℤ) (label : ℕ → Label) (mate : ℕ → Option ℕ) (link : ℕ → ℕ) → Forest
replaced f weight label mate link = record f { weight = weight; label = label; mate = mate; link = link }

module _ {g : Darts} {f : Forest} {weight : ℕ → ℤ} {label : ℕ → Label} {mate : ℕ → Option ℕ} {link : ℕ → ℕ} where
  -- The nest stays, where what is not in use has no weight and the joints are tight.
  pub nest_stays : IsNested g f → ((b : ℕ) → g.n ≤ b → f.nest.parts b ≡ 0 → weight b ≡ pos 0)
      → ((p : ℕ) → IsJoint g f p → IsTight g (replaced f weight label mate link) (f.nest.joint p))
      → IsNested g (replaced f weight label mate link)
  nest_stays nested weightless tight = search rules

-- Only labels, mates and links differ.
module _ {g : Darts} {f : Forest} {label : ℕ → Label} {mate : ℕ → Option ℕ} {link : ℕ → ℕ} where
  pub same_tight : {d : ℕ} → IsTight g f d → IsTight g (replaced f f.weight label mate link) d
  same_tight is = record { low = is.low; exact = is.exact }

  pub same_feasible : IsFeasible g f → IsFeasible g (replaced f f.weight label mate link)
  same_feasible is = record { sets = is.sets; darts = is.darts }

  pub same_nested : IsNested g f → IsNested g (replaced f f.weight label mate link)
  same_nested nested = nest_stays nested nested.weightless (λ p is. same_tight is.tight)

-- The mates are the same.
pub own_matched : {g : Darts} {f : Forest} {label : ℕ → Label} {link : ℕ → ℕ} → IsMatched g f
    → IsMatched g (replaced f f.weight label f.mate link)
own_matched matched b d is = grind (arith, matched b d is)

module _ {g : Darts} (are : AreDarts g) {f : Forest} (valid : IsValid g f None) (b : ℕ)
    (outermost : IsOutermost g.n f b) (free : f.mate b ≡ None) where
  -- Where no tree stands, a blossom that is not matched may become the root.
  pub rooted_valid : IsValid g (rooted f b) (Some b)
  rooted_valid = tree_valid (λ x. 0) (search rules) (same_nested valid.nested) (same_feasible valid.feasible)
      (set_here f.label b Outer) free (λ x. record {
        matched = own_matched valid.matched x;
        inner = λ l. absurd (grind (arith, valid.no_tree refl x));
        outer = λ l. inl (grind (arith, valid.no_tree refl x));
        outside = λ d _ mate. grind (arith, (valid.matched x d mate).back, valid.no_tree refl (f.out (far g d)));
      })

module _ (g : Darts) (are : AreDarts g) (f : Forest) (r : ℕ) (valid : IsValid g f (Some r)) (d m : ℕ)
    (reach : Reaches g f d) (mate : f.mate (f.out (far g d)) ≡ Some m) where
  -- The blossom on which the new ones hang, the new inner one, and the new outer one.
  abbrev on : ℕ
  on = f.out (g.near d)

  abbrev inn : ℕ
  inn = f.out (far g d)

  abbrev outer : ℕ
  outer = f.out (far g m)

  pair : IsMate g f inn m
  pair = valid.matched inn m mate

  -- A blossom with a place in the tree already is none of the two.
  same_named : {X : Type 0} (table : ℕ → X) (first second : X) (x : ℕ) → f.label x ≢ Outside
      → set_at (set_at table inn first) outer second x ≡ table x
  same_named table first second x named =
      set_there (set_at table inn first) outer x second (λ e. named (ap f.label e ∙ valid.outside inn m reach.off mate))
      ∙ set_there table inn x first (λ e. named (ap f.label e ∙ reach.off))

  abbrev labels : ℕ → Label
  labels = set_at (set_at f.label inn Inner) outer Outer

  label_named : {x : ℕ} {l : Label} → l ≢ Outside → f.label x ≡ l → labels x ≡ l
  label_named {x} named e = same_named f.label Inner Outer x (λ off. named (sym e ∙ off)) ∙ e

  data Place (x : ℕ) : Type 0 where
    is_outer : x ≡ outer → labels x ≡ Outer → Place x
    is_inner : x ≡ inn → labels x ≡ Inner → Place x
    is_other : x ≢ inn → x ≢ outer → labels x ≡ f.label x → Place x

  place : (x : ℕ) → Place x
  place x = search rules

  module _ (tree : IsTree g f r) where
    abbrev deeper : ℕ
    deeper = suc (tree.depth on)

    abbrev depths : ℕ → ℕ
    depths = set_at (set_at tree.depth inn deeper) outer deeper

    depth_inner : depths inn ≡ deeper
    depth_inner = grind arith

    depth_named : {x : ℕ} → f.label x ≢ Outside → depths x ≡ tree.depth x
    depth_named {x} = same_named tree.depth deeper deeper x

    new_inner : IsInner g (grown g f d m) depths inn
    new_inner =
        let link = set_here f.link inn (g.twin d) in
        let goes = ap (λ x. f.out (far g x)) link ∙ ap f.out (far_twin are d) in
        record {
          tight = rw link (same_tight (tight_twin are reach.tight));
          here = rw link refl;
          above = ap labels goes ∙ label_named (outer_named refl) reach.outer;
          nearer = omega (arith, ap depths goes, depth_named (outer_named reach.outer), depth_inner);
          dart = m;
          mate = mate;
          child = set_here (set_at f.label inn Inner) outer Outer;
          same = set_here (set_at tree.depth inn deeper) outer deeper ∙ sym depth_inner;
        }

    old_inner : {x : ℕ} → f.label x ≡ Inner → IsInner g f tree.depth x → IsInner g (grown g f d m) depths x
    old_inner {x} l is = search (rules, set_there, inner_named, depth_named, outer_named, same_tight, label_named, far)

    in_order : (x : ℕ) → IsInOrder g (grown g f d m) r depths x
    in_order x = record {
      matched = own_matched valid.matched x;
      inner = λ l. elim (place x) [
        | is_outer at label ↦ absurd cc
        | is_inner at label ↦ rw at new_inner
        | is_other _ _ same ↦ old_inner (sym same ∙ l) (tree.inner x (sym same ∙ l))
      ];
      outer = λ l. elim (place x) [
        | is_outer at label ↦ inr (g.twin m, ap f.mate at ∙ pair.back, search (rules, far_twin, pair.other))
        | is_inner at label ↦ absurd cc
        | is_other _ _ same ↦ (let old = tree.outer x (sym same ∙ l) in search (rules, label_named, inner_named))
      ];
      outside = λ e l is. (let here = place x in
          let there = place (f.out (far g e)) in
          let mine = valid.matched x e is in
          grind (arith, pair.here, pair.back, mate, are.twin_twin e, are.twin_twin m, valid.outside x e));
    }

  -- A tree that grows along a tight dart to a matched blossom outside keeps the forest valid.
  pub grown_valid : IsValid g (grown g f d m) (Some r)
  grown_valid =
      let tree = valid.tree r refl in
      let up = far_low g are m pair.tight.low in
      let down = far_low g are d reach.tight.low in
      let named : (x : ℕ) → labels x ≢ Outside → IsOutermost g.n f x =
      λ x is. (let old = valid.outermost.named x in search rules) in
      tree_valid (depths tree) (search rules) (same_nested valid.nested)
      (same_feasible valid.feasible) (label_named (outer_named refl) tree.root_outer) tree.root_free (in_order tree)
