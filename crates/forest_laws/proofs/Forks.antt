-- Two climbers from two blossoms of the tree, the lower of whom waits, meet where the ways first meet; and from there
-- the ring that an edge between two outer blossoms closes is read off.
use Rattle.std.proofs.Common.{rules, ◌≡◌, ◌≢◌, ℕ, zero, suc, ◌+◌, ◌-◌, ◌*◌, ◌/◌, ◌<◌, ◌≤◌, Bool, true, Some, refl}
use Rattle.std.proofs.Common.{sym, ◌∙◌, ap, subst, inl, inr, arith}
use Rattle.std.proofs.lemmas.Bool.{cases_eq, cases_lt, cond-true, cond-false, eq-eqb, lt-ltb, le-ltb}
use Rattle.def_forest.specs.declared.kinds.Label.TheVariants.{Outer, Inner, Outside}
use Rattle.def_forest.specs.{Darts.Darts, Darts.AreDarts, Darts.far, Forests.Forest, Forests.IsTight, Forests.walk}
use Rattle.def_forest.specs.{Shrunk.IsCycle, Shrunk.IsClosedRow, Valid.IsValid, Valid.IsTree, Ways.dart_or}
use Rattle.forest_laws.specs.Climbing.{rise_of, above_of, level_of, way_of, IsClimbing, ring_at, ring_dart}
use Rattle.forest_laws.{specs.Walks.listed, proofs.Grows.far_twin, proofs.Grows.tight_twin, proofs.Grows.outer_named}
use Rattle.forest_laws.proofs.Levels.{tree_cases, level_zero, root_level, on_way, way_step, way_depth}
use Rattle.forest_laws.proofs.Levels.{step_outer, level_some}
use Rattle.forest_laws.proofs.Walks.{walk_sum, listed_place, listed_off, listed_closed, listed_sum}

-- The two climbers may change places.
pub swapped : {g : Darts} {f : Forest} {a c x y i j : ℕ} → IsClimbing g f a c x y i j → IsClimbing g f c a y x j i
swapped is = grind (arith, is.left, is.right)

module _ {g : Darts} (are : AreDarts g) {f : Forest} {r : ℕ} (valid : IsValid g f (Some r)) (tree : IsTree g f r)
    (a c : ℕ) (named_a : f.label a ≢ Outside) (named_c : f.label c ≢ Outside) where
  -- The higher one, or either where they are level, is not at the root, and climbs.
  pub can_climb : {x y i j : ℕ} → IsClimbing g f a c x y i j → x ≢ y → level_of g f c - j ≤ level_of g f a - i
      → i < level_of g f a
  can_climb {i} {j} is ne high =
      let wx = on_way are valid tree a i named_a is.x_low in
      let wy = on_way are valid tree c j named_c is.y_low in
      grind (arith, is, level_zero are valid tree (way_of g f a i), level_zero are valid tree (way_of g f c j))

  pub climb_on : {x y : ℕ} {x2 : ℕ} {i j : ℕ} → IsClimbing g f a c x y i j → x ≢ y
      → level_of g f c - j ≤ level_of g f a - i → x2 ≡ above_of g f x → IsClimbing g f a c x2 y (suc i) j
  climb_on {i} {j} is ne high x2_is = record {
    x_is = x2_is ∙ ap (above_of g f) is.x_is;
    y_is = is.y_is;
    x_low = can_climb is ne high;
    y_low = is.y_low;
    left = λ k m lk lm e. (let wx = on_way are valid tree a k named_a lk in
        let wy = on_way are valid tree c m named_c lm in
        grind (arith, is.left k m lk lm e, is.right k m lk lm e));
    right = is.right;
  }

-- A tight dart joins two outer blossoms of a valid tree, whose ways to the root meet at a top.
pub record Fork (g : Darts) (f : Forest) (r start top left right : ℕ) : Type 0 where
  pub are : AreDarts g
  pub valid : IsValid g f (Some r)
  pub tree : IsTree g f r
  pub tight : IsTight g f start
  pub outer_a : f.label (f.out (g.near start)) ≡ Outer
  pub outer_c : f.label (f.out (far g start)) ≡ Outer
  pub apart : f.out (g.near start) ≢ f.out (far g start)
  pub met : IsClimbing g f (f.out (g.near start)) (f.out (far g start)) top top left right

module _ {g : Darts} {f : Forest} {r start top left right : ℕ} (fork : Fork g f r start top left right) where
  open fork use {are, valid, tree, tight, outer_a, outer_c, apart, met}

  abbrev a : ℕ
  a = f.out (g.near start)

  abbrev c : ℕ
  c = f.out (far g start)

  abbrev level : ℕ → ℕ
  level = level_of g f

  abbrev way : ℕ → ℕ → ℕ
  way = way_of g f

  -- The ring has so many places.
  abbrev many : ℕ
  many = left + right + 1

  on : (b i : ℕ) → f.label b ≡ Outer → i ≤ level b → (f.label (way b i) ≢ Outside) × (level (way b i) + i ≡ level b)
  on b i outer l = on_way are valid tree b i (outer_named outer) l

  -- A place of the tree that is no nearer to the root than the top.
  record IsBelow (x : ℕ) : Type 0 where
    pub named : f.label x ≢ Outside
    pub level : level_of g f top ≤ level_of g f x
    pub depth : tree.depth top ≤ tree.depth x

  below : (b i n : ℕ) → f.label b ≡ Outer → i ≤ n → n ≤ level b → top ≡ way b n → IsBelow (way b i)
  below b i n outer li ln e =
      let here = on b i outer (omega arith) in
      let last = walk_sum (above_of g f) b i (n - i) in
      search (rules, on b n outer ln, way_depth are valid tree (way b i) (n - i))

  on_left : (i : ℕ) → i ≤ left → IsBelow (way a i)
  on_left i l = below a i left outer_a l met.x_low met.x_is

  top_named : f.label top ≢ Outside
  top_named = rw met.x_is (on_left left (omega arith)).named

  -- An inner blossom on a way was come to from the blossom to which it is matched.
  came_from : (b n d x : ℕ) → f.label b ≡ Outer → n ≤ level b → x ≡ way b n → f.label x ≡ Inner → f.mate x ≡ Some d
      → (k : ℕ) × (n ≡ suc k) × (f.out (far g d) ≡ way b k)
  came_from b zero d x outer l e inner mate = absurd cc
  came_from b (suc k) d x outer l e inner mate =
      let w = on b k outer (omega arith) in
      let up = level_some are valid tree (way b k) w.0 (omega (arith, w.1)) in
      grind (arith, valid.matched (way b k) up.0, far_twin are up.0, tree.inner (way b k))

  -- They meet in an outer blossom: on an inner one both would have come from the blossom to which it is matched.
  top_outer : f.label top ≡ Outer
  top_outer = elim (tree_cases (f.label top) top_named) [
    | inl outer ↦ outer
    | inr inner ↦ (let mate = (tree.inner top inner).mate in
        let i = came_from a left _ top outer_a met.x_low met.x_is inner mate in
        let j = came_from c right _ top outer_c met.y_low met.y_is inner mate in
        search (rules, i, j, met.left))
  ]

  -- The ring has an odd number of places.
  ring_half : (h : ℕ) × (1 ≤ h) × (left + right + 1 ≡ 2 * h + 1)
  ring_half =
      let even : 2 * ((left + right) / 2) ≡ left + right = search (rules, top_outer, on) in
      let some : left + right ≢ 0 = search rules in
      ((left + right) / 2, omega arith, omega arith)

  -- The two ways differ but for where they meet, and each goes past different places.
  pub ways_differ : (i m : ℕ) → i ≤ left → m < right → way c m ≢ way a i
  ways_differ i m li lm e = search rules

  pub left_differs : (i j : ℕ) → i < j → j ≤ left → way a i ≢ way a j
  left_differs i j lij lj e = grind (arith, on a i outer_a, on a j outer_a)

  pub right_differs : (i j : ℕ) → i < j → j < right → way c i ≢ way c j
  right_differs i j lij lj e = grind (arith, on c i outer_c, on c j outer_c)

  abbrev at : ℕ → ℕ
  at = ring_at g f a c left

  pub at_left : (k : ℕ) → k ≤ left → at k ≡ way a (left - k)
  at_left k l = cond-false _ _ _ (le-ltb left k l)

  at_down : (k i : ℕ) → k + i ≡ left → at k ≡ way a i
  at_down k i e = let s : left - k ≡ i = omega arith in at_left k (omega arith) ∙ ap (way a) s

  pub at_right : (k m : ℕ) → k ≡ left + 1 + m → at k ≡ way c m
  at_right k m e = grind arith

  -- A place on the ring is on the one way or on the other.
  data Side (k : ℕ) : Type 0 where
    down : (i : ℕ) → k + i ≡ left → Side k
    up : (m : ℕ) → k ≡ left + 1 + m → Side k

  side : (k : ℕ) → Side k
  side k = elim (cases_lt left k) [
    | inl l ↦ up (k - left - 1) (omega (arith, l))
    | inr h ↦ down (left - k) (omega (arith, h))
  ]

  at_first : at 0 ≡ top
  at_first = at_down 0 left (omega arith) ∙ sym met.x_is

  at_below : (k : ℕ) → k < many → IsBelow (at k)
  at_below k l = elim (side k) [
    | down i e ↦ rw (at_down k i e) (on_left i (omega arith))
    | up m e ↦ rw (at_right k m e) (below c m right outer_c (omega arith) met.y_low met.y_is)
  ]

  pub at_named : (k : ℕ) → k < left + right + 1 → f.label (at k) ≢ Outside
  at_named k l = (at_below k l).named

  -- The darts between them.
  abbrev dart : ℕ → ℕ
  dart = ring_dart g f a c left start

  pub dart_left : (k : ℕ) → k < left → dart k ≡ g.twin (dart_or (rise_of f (way a (left - k - 1))))
  dart_left k l = cond-true _ _ _ (lt-ltb k left l)

  dart_down : (k m : ℕ) → k + suc m ≡ left → dart k ≡ g.twin (dart_or (rise_of f (way a m)))
  dart_down k m e = let s : left - k - 1 ≡ m = omega arith in
      dart_left k (omega arith) ∙ ap (λ i. g.twin (dart_or (rise_of f (way a i)))) s

  pub dart_over : {k : ℕ} → k ≡ left → dart k ≡ start
  dart_over {k} e = cond-false _ _ _ (le-ltb k left (omega arith)) ∙ cond-true _ _ _ (eq-eqb k left e)

  pub dart_right : {k : ℕ} (m : ℕ) → k ≡ left + 1 + m → dart k ≡ dart_or (rise_of f (way c m))
  dart_right {k} m e = let s : k - left - 1 ≡ m = omega arith in
      search rules

  abbrev Joins : (d x y : ℕ) → Type 0
  Joins d x y = IsTight g f d × (f.out (g.near d) ≡ x) × (f.out (far g d) ≡ y)

  ring_joins : (k : ℕ) → k < many → Joins (dart k) (at k) (at (suc k))
  ring_joins k l = elim (side k) [
    | down zero e ↦ search (rules, dart_over, at_down, at_right)
    | down (suc m) e ↦ (let step = way_step are valid tree a m (outer_named outer_a) (omega (arith, met.x_low)) in
        let twin = tight_twin are step.tight in let here = at_down k (suc m) e in
        search (rules, at_down, dart_down, far_twin))
    | up m e ↦ (let step = way_step are valid tree c m (outer_named outer_c) (omega (arith, met.y_low)) in
        let here = at_right k m e in
        let next = at_right (suc k) (suc m) (omega arith) in
        search rules)
  ]

  -- Tables that have the ring.
  module _ (after joint : ℕ → ℕ) (afters : (k : ℕ) → k < left + right + 1 → after (at k) ≡ at (suc k))
      (joints : (k : ℕ) → k < left + right + 1 → joint (at k) ≡ dart k) where
    pub walks : (k : ℕ) → k ≤ left + right + 1 → walk after top k ≡ at k
    walks zero l = sym at_first
    walks (suc k) l = ap after (walks k (omega (arith, l))) ∙ afters k (omega (arith, l))

    closed : walk after top many ≡ top
    closed = walks many (omega arith) ∙ at_right many right (omega arith) ∙ sym met.y_is

    abbrev inside : ℕ → Bool
    inside = listed after top (left + right + 1)

    -- What is marked stands at a place.
    marked_at : (x : ℕ) → inside x ≡ true → (k : ℕ) × (k < many) × (at k ≡ x)
    marked_at x on = search (rules, listed_place, walks)

    at_marked : (k : ℕ) → k ≤ many → inside (at k) ≡ true
    at_marked k l = subst (λ x. inside x ≡ true) (walks k l) (listed_closed after many (omega arith) closed k)

    joins : (x : ℕ) → inside x ≡ true → Joins (joint x) x (after x)
    joins x on = let w = marked_at x on in
        rw (← w.2, joints w.0 w.1, afters w.0 w.1) (ring_joins w.0 w.1)

    pub closed_row : IsClosedRow g f after joint inside top (left + right + 1)
    closed_row = record {
      half = ring_half.0;
      some = ring_half.1;
      odd = ring_half.2;
      closed = closed;
      marked = listed_closed after many (omega arith) closed;
      shared = λ v l. listed_sum after top many (f.out v)
          (search (rules, left_differs, ways_differ, right_differs, walks));
      distinct = search (rules, left_differs, ways_differ, right_differs, walks);
      all = λ x on. listed_place after top many x on;
      tight = λ x on. (joins x on).0;
      begins = λ x on. (joins x on).1;
      ends = λ x on. (joins x on).2;
    }

    -- The blossom to which one of the ring but the top is matched is on the ring.
    module _ {x d : ℕ} (mate : f.mate x ≡ Some d) where
      -- One below the top on a way is matched to the next above it or below it.
      mate_on_way : (b n i : ℕ) → f.label b ≡ Outer → n ≤ level b → ((i : ℕ) → i ≤ n → inside (way b i) ≡ true)
          → i < n → way b i ≡ x → inside (f.out (far g d)) ≡ true
      mate_on_way b n i outer_b ln marked l e =
          let own = ap f.mate e ∙ mate in
          elim (tree_cases (f.label (way b i)) (on b i outer_b (omega arith)).0) [
            | inl outer ↦ ap inside (step_outer are valid tree (way b i) d outer own).there ∙ marked (suc i) l
            | inr inner ↦ (let w = came_from b i d _ outer_b (omega arith) refl inner own in
                ap inside w.2 ∙ marked w.0 (omega (arith, w.1)))
          ]

      mate_inside : x ≢ top → (k : ℕ) × (k < many) × (at k ≡ x) → inside (f.out (far g d)) ≡ true
      mate_inside not_top (k, l, e) = elim (side k) [
        | down i s ↦ mate_on_way a left i outer_a met.x_low (λ i l. ap inside (sym (at_down _ i (omega (arith, l))))
            ∙ at_marked (left - i) (omega arith)) (search (rules, cases_eq k 0, at_first)) (sym (at_down k i s) ∙ e)
        | up m s ↦ mate_on_way c _ m outer_c met.y_low (λ i l. ap inside (sym (at_right (left + 1 + i) i refl))
            ∙ at_marked _ (omega (arith, l))) (omega arith) (sym (at_right k m s) ∙ e)
      ]

    marked_below : (x : ℕ) → inside x ≡ true → IsBelow x
    marked_below x on = let w = marked_at x on in rw w.2 at (at_below w.0 w.1)

    -- The marked blossoms are a cycle of the tree.
    pub ring_cycle : IsCycle g f r tree.depth inside top
    ring_cycle = record {
      top_outer = top_outer;
      top_in = ap inside (sym at_first) ∙ at_marked 0 (omega arith);
      in_tree = λ x on. (marked_below x on).named;
      above = λ x on. (marked_below x on).depth;
      mates = λ x d on not_top mate. mate_inside mate not_top (marked_at x on);
      top_mate = λ d mate. listed_off _ _ many _ (λ k l e. (let up = step_outer are valid tree _ d top_outer mate in
          search (rules, walks, at_below)));
      root_top = λ on. sym (level_zero are valid tree _ top_named
          (omega (arith, root_level are valid tree, (marked_below r on).level)));
    }
