-- The tables of a forest that is open, those that contracts see and those that they do not.
use Rattle.std.proofs.Common.{rules, ◌≡◌, ◌≢◌, ℕ, suc, ◌+◌, ◌-◌, ◌*◌, ◌<◌, ◌≤◌, Bool, true, false, cond, length, get_or}
use Rattle.std.proofs.Common.{ℤ, Option, Some, None, refl, sym, ◌∙◌, ap, subst, inl, inr, arith}
use Rattle.std.proofs.lemmas.Bool.{cases_eq, cases_lt, cond-true, eq-eqb}
use Rattle.def_forest.specs.Tables.{ForestTables, forest_of, label_at, IsOutermostIn, IsValidFor}
use Rattle.def_forest.specs.{Darts.Darts, Darts.AreDarts, Darts.darts_of, Darts.far, Forests.Forest, Forests.IsTight}
use Rattle.def_forest.specs.{Forests.IsOutermost, Forests.set_at, Forests.walk, Shrunk.IsClosedRow, Shrunk.IsCycle}
use Rattle.def_forest.specs.{Shrunk.IsShrunk, Shrunk.IsShrinking, Shrunk.IsUnused, Valid.IsValid, Valid.IsTree}
use Rattle.def_forest.specs.{Ways.dart_or, declared.kinds.Label.Label, declared.kinds.Label.TheVariants.Outer}
use Rattle.def_forest.specs.{declared.kinds.Label.TheVariants.Outside}
use Rattle.qm_forest.specs.Ties.{HiddenTables, fixed_of, HasSameNest, labelled, mated, left_alone}
use Rattle.qm_forest.specs.{Views.tables_of, Views.hidden_of, declared.forest.Forest.TheInside.Inside}
use Rattle.qm_forest.specs.{Gathers.HasClosed, Gathers.IsFreeRing, Gathers.IsGathered, Gathers.live_sets}
use Rattle.qm_forest.specs.{Rings.IsRingedAlike, Rings.laid_ring}
use Rattle.def_matching.specs.Matching.{WeightedGraph, IsSmallGraph}
use Rattle.forest_laws.specs.Climbing.{rise_of, way_of, IsClimbing, ring_at, ring_dart}
use Rattle.forest_laws.specs.Walks.{listed, writes}
use Rattle.forest_laws.proofs.Forks.{Fork, at_left, at_right, at_named, dart_left, dart_over, dart_right, closed_row}
use Rattle.forest_laws.proofs.Forks.{left_differs, right_differs, ring_cycle, walks, ways_differ}
use Rattle.forest_laws.proofs.Grows.{label_cases, named_low, option_cases, outer_named, set_here, set_there, true_false}
use Rattle.forest_laws.proofs.{Bounds.are_darts, Shrinks.Shrink, Shrinks.shrunk_valid, Odds.IsBlossom, Odds.holder_used}
use Rattle.forest_laws.proofs.{Odds.sets_few, Walks.listed_at, Walks.writes_all, Walks.writes_at, Walks.writes_off}
use Rattle.qm_forest.proofs.{OnWays.valid_as, Increases.the_tree}

abbrev pub seen_in : Inside → ForestTables
seen_in s = tables_of s.handles s.lists s.rings s.trail s.weights s.tree s.room

abbrev pub hidden_in : Inside → HiddenTables
hidden_in s = hidden_of s.handles s.lists s.trail s.pool

-- Shrinking, step by step: the ring that is laid is a cycle of the tree, and what comes of it is one blossom.

-- Two functions that differ at most where both are written are one once they are.
set_same : {X : Type 0} (f h : ℕ → X) (b : ℕ) (x : X) → ((y : ℕ) → y ≢ b → f y ≡ h y) → (y : ℕ) → set_at f b x y
    ≡ set_at h b x y
set_same f h b x same y = grind (arith, same y)

-- A dart that closes a cycle in the tree of valid tables: it is tight, it leads from one outer blossom to another, and
-- the ways from these two to the root meet.
pub record Closing (g : WeightedGraph) (t0 : ForestTables) (start top left right : ℕ) : Type 0 where
  pub is : IsSmallGraph g
  pub valid : IsValidFor g t0
  pub tight : IsTight (darts_of g) (forest_of t0) start
  pub outer_a : (forest_of t0).label ((forest_of t0).out ((darts_of g).near start)) ≡ Outer
  pub outer_c : (forest_of t0).label ((forest_of t0).out (far (darts_of g) start)) ≡ Outer
  pub apart : (forest_of t0).out ((darts_of g).near start) ≢ (forest_of t0).out (far (darts_of g) start)
  pub met : IsClimbing (darts_of g) (forest_of t0) ((forest_of t0).out ((darts_of g).near start))
      ((forest_of t0).out (far (darts_of g) start)) top top left right

module _ {g : WeightedGraph} {t0 : ForestTables} {start top left right : ℕ}
    (closing : Closing g t0 start top left right) where
  open closing use {is, valid, tight, outer_a, outer_c, apart, met}

  abbrev pub d : Darts
  d = darts_of g

  abbrev pub f : Forest
  f = forest_of t0

  abbrev pub a : ℕ
  a = (forest_of t0).out ((darts_of g).near start)

  abbrev pub c : ℕ
  c = (forest_of t0).out (far (darts_of g) start)

  are : AreDarts d
  are = are_darts is.lawful

  pub tree_is : (r : ℕ) × (t0.root ≡ Some r) × IsTree d f r
  tree_is = the_tree is valid a (outer_named outer_a)

  whole : IsValid d f (Some tree_is.0)
  whole = rw tree_is.1 at valid.valid

  fork : Fork d f tree_is.0 start top left right
  fork = assumption (are, whole, tree_is.2)

  abbrev many : ℕ
  many = left + right + 1

  abbrev at : ℕ → ℕ
  at = ring_at d f a c left

  -- The two ways to the root, and the darts of the ring along them: down the one, and up the other.
  abbrev pub way_a : ℕ → ℕ
  way_a = way_of d f a

  abbrev pub way_c : ℕ → ℕ
  way_c = way_of d f c

  abbrev downs : ℕ → ℕ
  downs i = d.twin (dart_or (rise_of f (way_a i)))

  abbrev ups : ℕ → ℕ
  ups i = dart_or (rise_of f (way_c i))

  at_middle : at left ≡ way_a 0
  at_middle = let z : left - left ≡ 0 = omega arith in at_left fork left (omega arith) ∙ ap way_a z

  -- A table that is written along the ring, down the first way and up the second.
  module _ {X : Type 0} (old : ℕ → X) (down : ℕ → X) (over : X) (up : ℕ → X) where
    abbrev low_part : ℕ → X
    low_part = writes old (λ i. way_a (suc i)) down left

    abbrev lain : ℕ → X
    lain = writes (set_at low_part (way_a 0) over) way_c up right

    lain_left : (k : ℕ) → k < left → lain (at k) ≡ down (left - k - 1)
    lain_left k l =
        let m = left - k - 1 in
        let i : suc m ≡ left - k = omega arith in
        ap lain (at_left fork k (omega (arith, l)) ∙ ap way_a (sym i)) ∙ (writes_off _ _ _ right (way_a (suc m))
        (λ j lj. ways_differ fork (suc m) j (omega (arith, l)) lj) ∙ (set_there low_part (way_a 0) (way_a (suc m)) over
        (λ e. left_differs fork 0 (suc m) (omega arith) (omega (arith, l)) (sym e)) ∙ writes_at old _ down left m
        (omega (arith, l)) (λ i j lij lj. left_differs fork (suc i) (suc j) (omega (arith, lij)) (omega (arith, lj)))))

    lain_over : lain (at left) ≡ over
    lain_over = ap lain at_middle ∙ (writes_off _ _ _ right (way_a 0) (λ m lm. ways_differ fork 0 m (omega arith) lm)
        ∙ set_here low_part (way_a 0) over)

    lain_right : {k : ℕ} (m : ℕ) → k ≡ left + 1 + m → m < right → lain (at k) ≡ up m
    lain_right {k} m e l = ap lain (at_right fork k m e) ∙ writes_at _ _ up right m l (right_differs fork)

    -- What is written at the places of the ring.
    lain_at : (ring : ℕ → X) → ((k : ℕ) → k < left → down (left - k - 1) ≡ ring k) → over ≡ ring left
        → ((m : ℕ) → m < right → up m ≡ ring (left + 1 + m)) → (k : ℕ) → k < left + right + 1 → lain (at k) ≡ ring k
    lain_at ring lefts overs rights k l = elim (cases_lt k left) [
      | inl lk ↦ lain_left k lk ∙ lefts k lk
      | inr h ↦ elim (cases_eq k left) [
        | inl e ↦ rw e (lain_over ∙ overs)
        | inr ne ↦ (let m : k ≡ left + 1 + (k - left - 1) = omega arith in
            let low : k - left - 1 < right = omega arith in
            lain_right _ m low ∙ (rights (k - left - 1) low ∙ ap ring (sym m)))
      ]
    ]

    lain_off : (x : ℕ) → ((k : ℕ) → k < left + right + 1 → at k ≢ x) → lain x ≡ old x
    lain_off x off = writes_off _ _ _ right x
        (λ m lm e. off (left + 1 + m) (omega arith) (at_right fork _ m refl ∙ e))
        ∙ (set_there low_part _ x over (λ e. off left (omega arith) (at_middle ∙ sym e)) ∙ writes_off old _ down left x
        (λ i li e. off (left - suc i) (omega arith) (let s : left - (left - suc i) ≡ suc i = omega arith in
        at_left fork _ (omega arith) ∙ (ap way_a s ∙ e))))

  abbrev pub after : ℕ → ℕ
  after = (laid_ring d f start left right).nest.after

  abbrev pub joint : ℕ → ℕ
  joint = (laid_ring d f start left right).nest.joint

  after_at : (k : ℕ) → k < many → after (at k) ≡ at (suc k)
  after_at = lain_at f.nest.after way_a c (λ i. way_c (suc i)) (λ k. at (suc k)) (search rules)
      (sym (at_right fork _ 0 (omega arith))) (λ m l. sym (at_right fork _ (suc m) (omega arith)))

  joint_at : (k : ℕ) → k < many → joint (at k) ≡ ring_dart d f a c left start k
  joint_at = lain_at f.nest.joint downs start ups _ (λ k l. sym (dart_left fork k l))
      (sym (dart_over fork {k = left} refl)) (λ m l. sym (dart_right fork {k = left + 1 + m} m refl))

  abbrev pub inside : ℕ → Bool
  inside = listed after top many

  pub ring_is : IsClosedRow d f after joint inside top many
  ring_is = closed_row fork after joint after_at joint_at

  pub cycle_is : IsCycle d f tree_is.0 tree_is.2.depth inside top
  unfolding fork
  cycle_is = ring_cycle fork after joint after_at joint_at

  walk_at : (k : ℕ) → k ≤ many → walk after top k ≡ at k
  walk_at = walks fork after joint after_at joint_at

  walk_named : (k : ℕ) → k < many → f.label (walk after top k) ≢ Outside
  walk_named k l = rw (walk_at k (omega arith)) (at_named fork k l)

  missed : (x : ℕ) → inside x ≡ false → (k : ℕ) → k < many → at k ≢ x
  missed x off k l e = true_false (ap inside (sym (walk_at k (omega arith) ∙ e)) ∙ listed_at after top many k l) off

  spot_out : (k : ℕ) → k < many → IsOutermost g.n f (walk after top k)
  spot_out k l = valid.valid.outermost.named _ (walk_named k l)

  spot_low : (k : ℕ) → k < many → walk after top k < length t0.up
  spot_low k l = named_low are valid.valid (walk_named k l)

  spot_used : (k : ℕ) → k < many → IsBlossom d f (walk after top k)
  spot_used k l = (let w = spot_out k l in holder_used are valid.valid.nested w.1
      (rw w.2 at (valid.valid.outermost.held w.0 w.0 w.1 w.1 ∙ eq-eqb (f.out w.0) (f.out w.0) refl)))

  -- Three blossoms are on the ring, so that there is room for a set more.
  pub room_is : 2 * live_sets t0 + 3 ≤ length t0.hand
  room_is =
      let low : (k : ℕ) → k < 3 → k < many = λ k l. omega (arith, ring_is.odd, ring_is.some) in
      rw valid.vertices (sets_few d are f valid.valid.nested valid.valid.outermost.vertices _
      (λ k l. spot_low k (low k l)) (λ i j lij lj. ring_is.distinct i j lij (low j lj)) (λ k l. (let w =
      spot_out k (low k l) in rw w.2 at (valid.valid.outermost.tops w.0 w.1))) (λ k l. spot_used k (low k l)))

  -- The ring that is laid is one of outermost blossoms.
  pub tops_laid : (t1 : ForestTables) → forest_of t1 ≡ laid_ring d f start left right
      → IsRingedAlike t0 t1 → (k : ℕ) → k < many → IsOutermostIn t1 (walk (λ i. get_or t1.after i 0) top k)
  tops_laid t1 laid alike k l =
      let w = spot_out k l in (
        w.0,
        rw (ap (λ (t : ForestTables). t.hand) alike, valid.vertices) w.1,
        ap (λ (x : Forest). x.out w.0) laid ∙ (w.2 ∙ sym (ap (λ (x : Forest). walk x.nest.after top k) laid)),
      )

  -- The tables after the ring is laid, and after its blossoms have left the tree.
  module _ {t1 t2 : ForestTables} (laid : forest_of t1 ≡ laid_ring d f start left right) (alike : IsRingedAlike t0 t1)
      (gone : forest_of t2 ≡ left_alone (forest_of t1) top many) (same : HasSameNest t1 t2) where
    was : forest_of t2 ≡ left_alone (laid_ring d f start left right) top many
    was = gone ∙ ap (λ (x : Forest). left_alone x top many) laid

    after_is : (λ k. get_or t2.after k 0) ≡ after
    after_is = ap (λ (x : Forest). x.nest.after) was

    nest_is : HasSameNest (record t0 { after = t1.after; joint = t1.joint }) t2
    nest_is = rw alike at same

    n_is : length t2.hand ≡ g.n
    n_is = ap length nest_is.hand ∙ valid.vertices

    outermost_same : (x : ℕ) → f.label x ≢ Outside → IsOutermostIn t2 x
    outermost_same x named = (let w : IsOutermost g.n f x = valid.valid.outermost.named x named in
        (w.0, rw n_is w.1, ap (λ (y : Forest). y.out w.0) was ∙ w.2))

    spot_is : (k : ℕ) → walk (λ i. get_or t2.after i 0) top k ≡ walk after top k
    spot_is k = ap (λ (h : ℕ → ℕ). walk h top k) after_is

    -- The ring is free to be gathered.
    pub free_ring : IsFreeRing t2 top (many)
    free_ring = record {
      row = record {
        some = omega arith;
        low = λ k l. rw (nest_is.up, spot_is k) (spot_low k l);
        distinct = λ i j lij lj e. ring_is.distinct i j lij lj (sym (spot_is i) ∙ (e ∙ spot_is j));
      };
      two = omega (arith, ring_is.odd, ring_is.some);
      tops = λ k l. rw (spot_is k) (outermost_same (walk after top k) (walk_named k l));
      outside = λ k l. ap (label_at t2.label) (spot_is k) ∙ (ap (λ (y : Forest). y.label (walk after top k)) was
          ∙ (writes_all f.label after top many Outside _ ∙ cond-true _ _ _ (listed_at after top many k l)));
      weightless = λ x high none. ap (λ (y : Forest). y.weight x) was
          ∙ valid.valid.nested.weightless x (rw n_is at high) (rw nest_is.parts at none);
      room = rw (nest_is.hand, nest_is.parts, nest_is.up) room_is;
      root = λ r e. outermost_same r (outer_named (valid.valid.tree r (sym nest_is.root ∙ e)).root_outer);
    }

  -- And what has come of it is one outer blossom, matched as the top was.
  module _ {t1 t5 : ForestTables} (laid : forest_of t1 ≡ laid_ring d f start left right) (alike : IsRingedAlike t0 t1)
      {mate : Option ℕ} (mate_was : mate ≡ f.mate top) (closed : HasClosed t1 t5 top many mate) where
    open closed use {b, gathered}

    after_left : (λ k. get_or closed.left.after k 0) ≡ after
    after_left = after_is laid alike closed.gone closed.same

    now : forest_of t5 ≡ mated (labelled (forest_of gathered) b Outer) b (f.mate top)
    now = rw (closed.holds, mate_was) at closed.done

    -- What was gathered, told of the forest before.
    made : IsGathered g.n (left_alone (laid_ring d f start left right) top many) (forest_of gathered) inside top many b
    made = subst (λ (h : ℕ → ℕ). IsGathered g.n (left_alone (laid_ring d f start left right) top many)
        (forest_of gathered) (listed h top many) top many b) after_left
        (rw (was laid alike closed.gone closed.same, n_is laid alike closed.gone closed.same) at closed.is)

    shrunk : IsShrunk g.n f (forest_of t5) inside top b top many
    shrunk = rw now (assumption (
      (λ (x : ℕ). ap (λ (h : ℕ → ℤ). h x) made.weight),
      set_same (forest_of gathered).label (λ y. cond (inside y) Outside (f.label y)) b Outer
          (λ y ne. ap (λ (h : ℕ → Label). h y) made.label ∙ writes_all f.label after top many Outside y),
      set_same (forest_of gathered).mate (λ y. cond (inside y) None (f.mate y)) b (f.mate top)
          (λ y ne. ap (λ (h : ℕ → Option ℕ). h y) made.mate ∙ writes_all f.mate after top many None y),
      (λ (x : ℕ). ap (λ (h : ℕ → ℕ). h x) made.link),
      (λ (x : ℕ) (off : inside x ≡ false). ap (λ (h : ℕ → ℕ). h x) made.after
          ∙ lain_off f.nest.after way_a c (λ i. way_c (suc i)) x (missed x off)),
      (λ (x : ℕ) (off : inside x ≡ false). ap (λ (h : ℕ → ℕ). h x) made.joint
          ∙ lain_off f.nest.joint downs start ups x (missed x off)),
      made,
    ))

    row_is : IsClosedRow d f (forest_of t5).nest.after (forest_of t5).nest.joint inside top many
    row_is = subst (λ (n : Forest). IsClosedRow d f n.nest.after n.nest.joint inside top many) (sym now)
        (rw (made.after, made.joint) ring_is)

    unused : IsUnused g.n f b
    unused =
        let outside : f.label b ≡ Outside = elim (label_cases (f.label b)) [
          | inl e ↦ e
          | inr named ↦ (let w = valid.valid.outermost.named b named in absurd (made.no_out w.0 w.1 w.2))
        ] in
        let unmatched : f.mate b ≡ None = elim (option_cases (f.mate b)) [
          | inl e ↦ e
          | inr m ↦ (let pair = valid.valid.matched b m.0 m.1 in
              absurd (made.no_out (d.near m.0) (are.near_low m.0 pair.tight.low) pair.here))
        ] in
        assumption (made, valid.valid.nested.weightless b made.high made.no_parts)

    new_root : t5.root ≡ Some (cond (inside tree_is.0) b tree_is.0)
    new_root = closed.root tree_is.0 (ap (λ (t : ForestTables). t.root) alike ∙ tree_is.1)
        ∙ ap (λ (h : ℕ → ℕ). Some (cond (listed h top many tree_is.0) b tree_is.0)) after_left

    -- The cycle has become one blossom.
    shrinking : IsShrinking d f (forest_of t5) t0.root t5.root start
    shrinking = record {
      r = tree_is.0;
      old_root = tree_is.1;
      tree = tree_is.2;
      inside = inside;
      top = top;
      set = b;
      many = many;
      begins = marked left a (omega arith) at_middle;
      ends = elim (cases_eq right 0) [
        | inl z ↦ ap inside (ap way_c (sym z) ∙ sym met.y_is) ∙ listed_at after top many 0 (omega arith)
        | inr nz ↦ marked (left + 1) c (omega (arith, nz)) (at_right fork (left + 1) 0 (omega arith))
      ];
      cycle = cycle_is;
      unused = unused;
      row = row_is;
      shrunk = shrunk;
      root_is = new_root;
    }
      where
        marked : (k x : ℕ) → k < many → at k ≡ x → inside x ≡ true
        marked k x l e = ap inside (sym (walk_at k (omega (arith, l)) ∙ e)) ∙ listed_at after top many k l

    -- And the forest is valid.
    pub shrunk_tables : IsShrinking d f (forest_of t5) t0.root t5.root start × IsValidFor g t5
    shrunk_tables =
        let is_shrink : Shrink d f tree_is.0 (forest_of t5) inside top b top many =
        search (are, whole, cycle_is, unused, row_is, shrunk) in (
          shrinking,
          valid_as t5 valid (closed.fixed ∙ ap fixed_of alike)
              (closed.hand ∙ ap (λ (t : ForestTables). length t.hand) alike) (rw new_root (shrunk_valid is_shrink)),
        )
