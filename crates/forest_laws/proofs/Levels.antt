-- Climbing the tree one blossom at a time: each step brings one a level nearer to the root, and so climbing ends.
use Rattle.std.proofs.Common.{rules, ◌≡◌, ◌≢◌, ℕ, zero, suc, ◌+◌, ◌*◌, ◌<◌, ◌≤◌, Some, None, ◌⊎◌, sym, ◌∙◌, ap}
use Rattle.std.proofs.Common.{inl, inr, arith}
use Rattle.sum_laws.proofs.{Sums.count_below_le, Sums.count_below_lt, Sums.count_below_ones, Tests.once_at_most}
use Rattle.def_forest.specs.declared.kinds.Label.TheVariants.{Outer, Inner, Outside}
use Rattle.def_forest.specs.{Darts.Darts, Darts.AreDarts, Darts.far, Forests.Forest, Forests.IsTight}
use Rattle.def_forest.specs.{Forests.bool_number, Valid.IsValid, Valid.IsInner, Valid.IsTree, Ways.dart_or}
use Rattle.def_forest.specs.{Ways.inner_of, Ways.parent_of, Ways.steps_by, Ways.steps, declared.kinds.Label.Label}
use Rattle.forest_laws.specs.Climbing.{rise_of, above_of, level_of, way_of}
use Rattle.forest_laws.proofs.Grows.{option_cases, outer_named, far_twin, named_low, outer_mate}
use Rattle.{std.specs.Prelude.nat_lt, def_math.specs.Counts.count_below}

-- A blossom of the tree is outer or inner.
pub tree_cases : (l : Label) → l ≢ Outside → (l ≡ Outer) ⊎ (l ≡ Inner)
tree_cases l h1 = search rules

-- What is less than a number is less than a greater one.
less_more : (x : ℕ) {p a : ℕ} → p < a → bool_number (nat_lt x p) ≤ bool_number (nat_lt x a)
less_more x {p} {a} l = grind arith

module _ {g : Darts} (are : AreDarts g) {f : Forest} {r : ℕ} (valid : IsValid g f (Some r)) (tree : IsTree g f r) where
  -- The inner blossom that an outer one is matched to.
  module _ (a d : ℕ) (outer : f.label a ≡ Outer) (mate : f.mate a ≡ Some d) where
    pub inner_is : inner_of g f a ≡ f.out (far g d)
    inner_is = ap (λ o. f.out (far g (dart_or o))) mate

    inner_tree : IsInner g f tree.depth (inner_of g f a)
    inner_tree = tree.inner (inner_of g f a) (ap f.label inner_is ∙ outer_mate are valid a d outer mate)

    inner_depth : tree.depth (inner_of g f a) ≡ tree.depth a
    inner_depth = let pair = valid.matched a d mate in
        cc (inner_is, inner_tree.same, inner_tree.mate, pair.back, pair.here, are.twin_twin d)

  -- How many blossoms are nearer to the root.
  abbrev nearer_to : ℕ → ℕ → ℕ
  nearer_to a b = bool_number (nat_lt (tree.depth b) (tree.depth a))

  abbrev nearer : ℕ → ℕ
  nearer a = count_below (nearer_to a) f.size

  nearer_falls : (a d : ℕ) → f.label a ≡ Outer → f.mate a ≡ Some d → nearer (parent_of g f a) < nearer a
  nearer_falls a d outer mate =
      let p = parent_of g f a in
      let is = inner_tree a d outer mate in
      let less : tree.depth p < tree.depth a = omega (arith, is.nearer, inner_depth a d outer mate) in
      count_below_lt _ _ _ p (named_low are valid (outer_named is.above)) (λ b lb. less_more _ less) (search rules)

  -- More steps than there are blossoms change nothing.
  enough : (k a : ℕ) → f.label a ≡ Outer → nearer a < k → steps g f (suc k) a ≡ steps g f k a
  enough zero a outer l = absurd (omega arith)
  enough (suc k) a outer l = elim (option_cases (f.mate a)) [
    | inl e ↦ rw e
    | inr w ↦ ap (steps_by (f.mate a)) (enough k (parent_of g f a) (inner_tree a w.0 outer w.1).above
        (omega (arith, nearer_falls a w.0 outer w.1)))
  ]

  -- The parent has one step less to the root.
  pub fewer_steps : (a d : ℕ) → f.label a ≡ Outer → f.mate a ≡ Some d → steps g f (f.size + 1) a
      ≡ suc (steps g f (f.size + 1) (parent_of g f a))
  fewer_steps a d outer mate =
      let few = count_below_le _ _ f.size (λ b l. once_at_most (nat_lt (tree.depth b) (tree.depth a))) in
      let more = enough f.size (parent_of g f a) (inner_tree a d outer mate).above
      (omega (arith, nearer_falls a d outer mate, count_below_ones f.size)) in
      let one : f.size + 1 ≡ suc f.size = omega arith in
      rw one (ap (λ o. steps_by o (steps g f f.size (parent_of g f a))) mate ∙ ap suc (sym more))

  abbrev level : ℕ → ℕ
  level = level_of g f

  abbrev above : ℕ → ℕ
  above = above_of g f

  abbrev way : ℕ → ℕ → ℕ
  way = way_of g f

  -- What one step up is.
  pub record IsStep (b d : ℕ) : Type 0 where
    pub tight : IsTight g f d
    pub here : f.out (g.near d) ≡ b
    pub there : f.out (far g d) ≡ above b
    pub named : f.label (above b) ≢ Outside
    pub lower : level b ≡ suc (level (above b))
    pub depth : tree.depth (above b) ≤ tree.depth b

  -- The mate of an outer blossom is where one comes to.
  pub step_outer : (b d : ℕ) → f.label b ≡ Outer → f.mate b ≡ Some d → IsStep b d
  step_outer b d outer mate = let pair = valid.matched b d mate in search (rules, far_twin)

  step_inner : (b : ℕ) → f.label b ≡ Inner → IsStep b (f.link b)
  step_inner b label =
      let is = tree.inner b label in
      let pair = valid.matched b is.dart is.mate in
      let child : inner_of g f b ≡ f.out (far g is.dart) = ap (λ o. f.out (far g (dart_or o))) is.mate in
      let mate = ap f.mate child ∙ pair.back in
      let fewer = fewer_steps (inner_of g f b) (g.twin is.dart) (ap f.label child ∙ is.child) mate in
      search rules

  -- A step up from a blossom of the tree.
  pub step_up : (b d : ℕ) → f.label b ≢ Outside → rise_of f b ≡ Some d → IsStep b d
  step_up b d named rise = grind (arith, step_outer b d, step_inner b)

  -- Where there is none one is at the root.
  pub at_root : (b : ℕ) → f.label b ≢ Outside → rise_of f b ≡ None → (b ≡ r) × (level b ≡ 0)
  at_root b named rise = search rules

  pub level_zero : (b : ℕ) → f.label b ≢ Outside → level b ≡ 0 → b ≡ r
  level_zero b named e = elim (option_cases (rise_of f b)) [
    | inl off ↦ (at_root b named off).0
    | inr w ↦ absurd (omega (arith, e, (step_up b w.0 named w.1).lower))
  ]

  pub level_some : (b : ℕ) → f.label b ≢ Outside → 1 ≤ level b → (d : ℕ) × (rise_of f b ≡ Some d)
  level_some b named some = search (rules, at_root)

  pub root_level : level r ≡ 0
  root_level = (at_root r (outer_named tree.root_outer) (rw tree.root_outer tree.root_free)).1

  -- Along a way the levels fall one by one, and one stays in the tree.
  pub on_way : (a m : ℕ) → f.label a ≢ Outside → m ≤ level a → (f.label (way a m) ≢ Outside)
      × (level (way a m) + m ≡ level a)
  on_way a zero named l = (named, omega arith)
  on_way a (suc m) named l =
      let was = on_way a m named (omega (arith, l)) in
      let d = level_some (way a m) was.0 (omega (arith, was.1)) in
      grind (arith, step_up (way a m) d.0 was.0 d.1)

  -- The step up from a place on a way.
  pub way_step : (a m : ℕ) → f.label a ≢ Outside → m < level a → IsStep (way a m) (dart_or (rise_of f (way a m)))
  way_step a m named l =
      let was = on_way a m named (omega arith) in
      let d = level_some (way a m) was.0 (omega arith) in
      rw d.1 (step_up (way a m) d.0 was.0 d.1)

  -- A way leads to no deeper blossoms.
  pub way_depth : (a m : ℕ) → f.label a ≢ Outside → m ≤ level a → tree.depth (way a m) ≤ tree.depth a
  way_depth a zero named l = omega arith
  way_depth a (suc m) named l = omega (arith, way_depth a m named (omega (arith, l)), (way_step a m named l).depth)

-- There are no more steps than the bound.
steps_low : (g : Darts) (f : Forest) (k a : ℕ) → steps g f k a ≤ k
steps_low g f zero a = omega arith
steps_low g f (suc k) a = grind (arith, steps_low g f k (parent_of g f a))

-- There are no more levels than twice the numbers of blossoms and two.
pub level_few : (g : Darts) (f : Forest) (b : ℕ) → level_of g f b ≤ 2 * f.size + 2
level_few g f b = grind (arith, steps_low)
