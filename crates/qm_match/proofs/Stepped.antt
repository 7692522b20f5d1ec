-- Where keys may be mended after a step, and the search after it.
use Rattle.std.proofs.Common.{rules, ◌≡◌, ◌≢◌, ℕ, zero, suc, ◌*◌, ◌<◌, ◌≤◌, true, false, cond, List, length, get_or}
use Rattle.std.proofs.Common.{Option, Some, None, ◌⊎◌, refl, sym, ◌∙◌, ap, subst, inl, inr, arith}
use Rattle.{std.proofs.Math.ListN.set, std.specs.Vec.vec_capacity, qm_match.specs.declared.search.Search.Search}
use Rattle.std.proofs.lemmas.{Bool.cond_both, Bool.Decides.nat_tests, List.get_or-set_other}
use Rattle.def_matching.specs.Matching.{WeightedGraph, edge_at}
use Rattle.def_forest.specs.Forests.{Forest, walk, bool_number, ring_sum, blossom_size, set_at}
use Rattle.def_forest.specs.{Tables.ForestTables, Tables.forest_of, Tables.outer_dart, Tables.IsValidFor, Ways.Reaches}
use Rattle.def_forest.specs.declared.kinds.Label.{Label, TheVariants.Outer, TheVariants.Inner}
use Rattle.def_forest.specs.{Darts.darts_of, Darts.far, declared.kinds.EdgeKind.TheVariants.Grow, Opened.IsExpanding}
use Rattle.def_forest.specs.Shrunk.{IsShrinking}
use Rattle.def_forest.specs.{Steps.grown, Steps.IsAugmented, Steps.IsGrown, Steps.rooted, Valid.IsRing, Valid.IsValid}
use Rattle.sum_laws.proofs.Sums.{count_below_le, count_below_ones, count_below_same}
use Rattle.forest_laws.proofs.Grows.{far_low, inner_named, set_here, set_there, true_false}
use Rattle.{forest_laws.proofs.Bounds.are_darts, forest_laws.proofs.Bounds.dart_near, qm_forest.proofs.MateRounds.grows}
use Rattle.forest_laws.proofs.Odds.{counts_exchanged, odd_blossom, part_used}
use Rattle.search_laws.specs.Keys.{leaf_of, no_key, true_key, AreLow, AreRightAt, IsMended}
use Rattle.search_laws.specs.Searches.{AreMarked, AreMatchedBefore, IsInRange, IsSeeking, steps_left}
use Rattle.search_laws.proofs.Kept.{IsTurned, stay_low, idle_low, rooted_turned, grown_turned, shrunk_turned}
use Rattle.search_laws.proofs.Kept.{opened_turned, shrunk_inner, opened_inner, held_out, shrunk_on, shrunk_set}
use Rattle.search_laws.proofs.Stepped.{range_same, seeking_begun, seeking_shrunk, seeking_opened}
use Rattle.search_laws.proofs.Counted.{grown_fewer, shrunk_fewer, opened_fewer}
use Rattle.qm_match.specs.States.{IsMade, IsIdle, IsUnderWay, IsRefreshed, IsFreshAt, MayRefresh, GoesOn}
use Rattle.qm_match.specs.Needs.{IsSetIn, MayOpen, MayRefreshAll, MayStep}

-- Room stays through a step of the forest.
pub made_after : {g : WeightedGraph} {s : Search} (t : ForestTables) → IsMade g s → (forest_of t).size
    ≡ (forest_of s.forest).size → IsMade g (record s { forest = t })
made_after t made size = assumption (size ∙ made.size)

-- Keys may be mended at the blossom of a vertex.
pub may_vertex : {g : WeightedGraph} {s : Search} (v : ℕ) {b : ℕ} → IsMade g s → IsValidFor g s.forest → v < g.n
    → (forest_of s.forest).out v ≡ b → MayRefresh g s b
may_vertex {g} {s} v made valid l e = search (rules, held_out g valid.valid v l)

-- The parts of a set.

-- The part at place k.
abbrev pub part_of : (t : ForestTables) (b k : ℕ) → ℕ
part_of t b k = walk (λ i. get_or t.after i 0) (get_or t.head b 0) k

-- A list has them all.
pub record AreParts (t : ForestTables) (b : ℕ) (list : List ℕ) : Type 0 where
  pub count : length list ≡ get_or t.parts b 0
  pub each : (k : ℕ) → k < length list → get_or list k 0 ≡ part_of t b k

ring_sum_high : (next f : ℕ → ℕ) (front n : ℕ) → ((k : ℕ) → 1 ≤ f (walk next front k)) → n ≤ ring_sum next f front n
ring_sum_high next f front zero each = omega arith
ring_sum_high next f front (suc n) each = omega (arith, ring_sum_high next f front n each, each n)

module _ {g : WeightedGraph} {old : Search} {b : ℕ} (is : IsSetIn g old b) where
  ring : IsRing (darts_of g) (forest_of old.forest) b
  ring = is.valid.valid.nested.rings b is.set is.live

  part_in_use : (k : ℕ) → (part_of old.forest b k < g.n) ⊎ (get_or old.forest.parts (part_of old.forest b k) 0 ≢ 0)
  part_in_use k = grind (arith, part_used (are_darts is.made.small.lawful) is.valid.valid.nested ring k)

  -- Keys may be mended at a part while only other tables changed.
  pub may_part : {s : Search} (k : ℕ) {p : ℕ} → IsMade g s → s.forest ≡ old.forest → p ≡ part_of old.forest b k
      → MayRefresh g s p
  may_part k made same p_is = rw p_is (search (rules, same, is.valid, ring.below k, part_in_use k))

  -- There are no more of them than vertices.
  pub parts_few : get_or old.forest.parts b 0 ≤ g.n
  parts_few =
      let f = forest_of old.forest in
      let are = are_darts is.made.small.lawful in
      let shared = count_below_same (λ v. bool_number (f.holds b v)) (λ v. ring_sum f.nest.after
      (λ p. bool_number (f.holds p v)) (f.nest.head b) (f.nest.parts b)) g.n ring.shared in
      let sums = counts_exchanged f.nest.after (λ p v. bool_number (f.holds p v)) (f.nest.head b) g.n
      (f.nest.parts b) in
      let many = ring_sum_high f.nest.after (blossom_size g.n f) (f.nest.head b) (f.nest.parts b)
      (search (rules, odd_blossom are is.valid.valid.nested, part_used are is.valid.valid.nested ring)) in
      let all = count_below_le (λ v. bool_number (f.holds b v)) (λ v. 1) g.n
      (λ v l. cond_both (f.holds b v) 1 0 (λ x. x ≤ 1) (λ _. omega arith) (λ _. omega arith)) in
      omega (arith, count_below_ones g.n)

-- Steps of a search.

-- What is right at a blossom, said of the forest after a step.
record IsRightIn (g : WeightedGraph) (f : Forest) (risen : ℕ) (new : Search) (b : ℕ) : Type 0 where
  mark : f.label b ≡ Inner → get_or new.inner.items b false ≡ true
  leaf : f.label b ≡ Inner → g.n ≤ b → get_or new.tour (leaf_of g b) 0 ≡ true_key g f risen (leaf_of g b)
  edges : f.label b ≢ Inner → AreRightAt g f risen new.tour (f.holds b)

-- A step to forest f: keys that may have changed are right, and blossoms that have become inner are marked.
record IsTaken (g : WeightedGraph) (old : Search) (f : Forest) (new : Search) : Type 0 where
  turned : IsTurned g (forest_of old.forest) f old.risen new.tour
  size : f.size ≡ (forest_of old.forest).size
  weights : (b : ℕ) → f.weight b ≡ (forest_of old.forest).weight b
  marked : (b : ℕ) → f.label b ≡ Inner
      → ((forest_of old.forest).label b ≡ Inner) ⊎ (get_or new.inner.items b false ≡ true)

-- One of a search, which goes on from the same vertex with fewer steps left.
record IsStep (g : WeightedGraph) (old : Search) (f : Forest) (root : Option ℕ) (new : Search) : Type 0 where
  taken : IsTaken g old f new
  tree : (r : ℕ) × (root ≡ Some r)
  seeking : (v : ℕ) → IsSeeking g.n (forest_of old.forest) old.forest.root v → IsSeeking g.n f root v
  fewer : steps_left g.n f < steps_left g.n (forest_of old.forest)

-- The search after it.
pub record HasStepped (g : WeightedGraph) (old new : Search) : Type 0 where
  pub way : IsUnderWay g new
  pub goes_on : GoesOn g.n old.forest new.forest
  pub fewer : steps_left g.n (forest_of new.forest) < steps_left g.n (forest_of old.forest)
  pub first : new.first ≡ old.first

right_in : {g : WeightedGraph} (old : Search) {t : ForestTables} {new : Search} {b : ℕ}
    → IsRefreshed g (record old { forest = t }) new → IsFreshAt g new b → IsRightIn g (forest_of t) old.risen new b
right_in old is fresh = search (rules, is.forest, is.risen)

module _ {g : WeightedGraph} {old : Search} {t : ForestTables} {new : Search} (valid : IsValidFor g t)
    (is : IsRefreshed g (record old { forest = t }) new) where
  -- When keys and marks are made right after a step, a search goes on.
  way_after : AreLow g (forest_of old.forest) old.risen old.tour → AreMarked (forest_of old.forest) old.inner.items
      → IsInRange g.n old.first (forest_of old.forest) old.risen → IsTaken g old (forest_of t) new
      → (r : ℕ) × (t.root ≡ Some r) → IsUnderWay g new
  way_after low marks range step tree =
      let marked : AreMarked (forest_of new.forest) new.inner.items = rw is.forest (λ b inner.
      elim (step.marked b inner) [ inl was ↦ is.marked b inner (marks b was) | inr right ↦ right ]) in
      let low_now = stay_low is.made.small.lawful low is.mended step.turned in
      let range_now = range_same (forest_of t) step.size step.weights range in
      search (rules, is.made, is.forest, is.risen, is.first, marked, low_now, range_now)

  stepped : IsUnderWay g old → IsStep g old (forest_of t) t.root new → HasStepped g old new
  stepped way step = search (rules, way_after, is.forest, step.seeking)

-- A tree grows along dart d, to a matched blossom and to its mate at the end of dart m.
pub record Growth (g : WeightedGraph) (old : Search) (t : ForestTables) (d m : ℕ) : Type 0 where
  pub way : IsUnderWay g old
  pub valid : IsValidFor g t
  pub is : forest_of t ≡ grown (darts_of g) (forest_of old.forest) d m
  pub root : t.root ≡ old.forest.root
  pub reach : Reaches (darts_of g) (forest_of old.forest) d
  pub mate : (forest_of old.forest).mate ((forest_of old.forest).out (far (darts_of g) d)) ≡ Some m
  pub low : far (darts_of g) d < g.n
  pub low_mate : far (darts_of g) m < g.n
  pub apart : (forest_of old.forest).out (far (darts_of g) d) ≢ (forest_of old.forest).out (far (darts_of g) m)

-- The forest has grown so.
pub growth_of : {g : WeightedGraph} {old : Search} {t : ForestTables} {e : ℕ} → MayStep g old e Grow → IsValidFor g t
    → t.root ≡ old.forest.root → (w : IsGrown (darts_of g) (forest_of old.forest) (forest_of t)
    (outer_dart g (forest_of old.forest) e)) → Growth g old t (outer_dart g (forest_of old.forest) e) w.0
growth_of {g} {e = e} may valid root (m, mate, is) =
    let way = may.way in
    let reach = (grows way.made.small way.valid.valid.feasible e may.edge may.kind).0 in
    let pair = way.valid.valid.matched _ m mate in search (rules, far_low, are_darts)

module _ {g : WeightedGraph} {old : Search} {t : ForestTables} {d m : ℕ} (growth : Growth g old t d m) where
  abbrev f : Forest
  f = forest_of old.forest

  abbrev inn : ℕ
  inn = f.out (far (darts_of g) d)

  abbrev outer : ℕ
  outer = f.out (far (darts_of g) m)

  abbrev after : Forest
  after = grown (darts_of g) f d m

  inner_label : after.label inn ≡ Inner
  inner_label = set_there (set_at f.label inn Inner) outer inn Outer growth.apart ∙ set_here f.label inn Inner

  -- Keys may be mended at both.
  pub grown_may : (v : ℕ) {b : ℕ} → v < g.n → b ≡ f.out v → MayRefresh g (record old { forest = t }) b
  grown_may v l e = may_vertex v (made_after t growth.way.made (ap (λ (f : Forest). f.size) growth.is)) growth.valid l
      (ap (λ (f : Forest). f.out v) growth.is ∙ sym e)

  grown_step : {new : Search} → IsRightIn g after old.risen new inn → IsRightIn g after old.risen new outer
      → IsStep g old after old.forest.root new
  grown_step {new} at_inner at_outer =
      let valid = growth.way.valid.valid in
      let turned = grown_turned g f _ valid d m _ _ growth.mate
      (at_outer.edges (λ inner. cc (set_here (set_at f.label inn Inner) outer Outer))) (at_inner.leaf inner_label) in
      let marked : (b : ℕ) → after.label b ≡ Inner → (f.label b ≡ Inner) ⊎ (get_or new.inner.items b false ≡ true) =
      search (rules, at_inner.mark inner_label) in
      let fewer = grown_fewer g growth.way.made.small.lawful f _ valid d m growth.reach.off growth.mate in
      assumption

  pub grown_stepped : {new : Search} → IsRefreshed g (record old { forest = t }) new → IsFreshAt g new inn
      → IsFreshAt g new outer → HasStepped g old new
  grown_stepped {new} is at_inner at_outer =
      let step = subst (λ (h : Forest). IsRightIn g h old.risen new inn → IsRightIn g h old.risen new outer
      → IsStep g old h old.forest.root new) (sym growth.is) grown_step in
      stepped growth.valid is growth.way (rw growth.root (step (right_in old is at_inner)
      (right_in old is at_outer)))

-- A cycle has become one blossom.
module _ {g : WeightedGraph} {old : Search} {t : ForestTables} {d : ℕ} (way : IsUnderWay g old) (valid : IsValidFor g t)
    (s : IsShrinking (darts_of g) (forest_of old.forest) (forest_of t) old.forest.root t.root d) where
  many_is : get_or t.parts s.set 0 ≡ s.many
  many_is = s.shrunk.parts s.set ∙ set_here (forest_of old.forest).nest.parts s.set s.many

  -- The new set has parts.
  pub closed : IsSetIn g (record old { forest = t }) s.set
  closed = search (rules, many_is)

  -- The keys at its marked parts are right, and its mark is taken away.
  pub shrunk_stepped : {mid new : Search} → mid ≡ record old { forest = t; tour = mid.tour; members = mid.members }
      → g.n ≤ vec_capacity mid.members → IsMended g (forest_of t) old.risen old.tour mid.tour
      → ((k : ℕ) → k < get_or t.parts s.set 0 → get_or old.inner.items (part_of t s.set k) false ≡ true
      → AreRightAt g (forest_of t) old.risen mid.tour ((forest_of t).holds (part_of t s.set k)))
      → new ≡ record mid { inner = new.inner } → new.inner.items ≡ set mid.inner.items s.set false
      → HasStepped g old new
  shrunk_stepped {mid} {new} same room mended right e marks =
      let lawful = way.made.small.lawful in
      let tour_is : new.tour ≡ mid.tour = rw e in
      let refreshed : IsRefreshed g (record old { forest = t }) new = search (
        rules,
        shrunk_set lawful way.valid.valid s,
      ) in
      stepped valid refreshed way (record {
        taken = record {
          turned = rw tour_is (shrunk_turned lawful way.valid.valid s old.risen mid.tour (λ p on inner.
              let w = s.row.all p on in
              let here : part_of t s.set w.0 ≡ p = ap (λ x. walk (forest_of t).nest.after x w.0) (s.shrunk.head s.set
              ∙ set_here (forest_of old.forest).nest.head s.set s.top) ∙ w.2 in
              rw here at (right w.0 (rw many_is w.1)) (way.marked p inner)));
          size = s.shrunk.size;
          weights = s.shrunk.weight;
          marked = λ b inner. inl (shrunk_inner lawful way.valid.valid s b inner);
        };
        tree = (cond (s.inside s.r) s.set s.r, s.root_is);
        seeking = λ v seeking. seeking_shrunk lawful way.valid.valid s seeking;
        fewer = shrunk_fewer g lawful (forest_of old.forest) (forest_of t) old.forest.root t.root d way.valid.valid s;
      })

-- The new set is the outermost blossom of the edge's first end.
pub closed_set : {g : WeightedGraph} {old : Search} (t : ForestTables) (e : ℕ) (way : IsUnderWay g old)
    (s : IsShrinking (darts_of g) (forest_of old.forest) (forest_of t) old.forest.root t.root (2 * e))
    → e < length g.edges → {u b : ℕ} → u ≡ (edge_at g e).u → b ≡ (forest_of t).out u → b ≡ s.set
closed_set {g} {old} t e way s low {u} u_is b_is = b_is ∙ (ap (forest_of t).out u_is ∙ shrunk_on way.made.small.lawful
    way.valid.valid s (edge_at g e).u (way.made.small.lawful.left e low) (search (rules, dart_near)))

-- A set that may be opened is in use.
pub opens : {g : WeightedGraph} {s : Search} {b : ℕ} → MayOpen g s b → IsSetIn g s b
opens {g} {s} {b} may =
    let valid = may.way.valid in
    let w = valid.valid.outermost.named b (inner_named may.inner) in
    let live : get_or s.forest.parts b 0 ≢ 0 = λ none. search (rules, valid.valid.nested.empty b w.0 may.set w.1 none)
    in assumption

-- It has been opened.
module _ {g : WeightedGraph} {old : Search} {t : ForestTables} {b : ℕ} (may : MayOpen g old b) (valid : IsValidFor g t)
    (x : IsExpanding (darts_of g) (forest_of old.forest) (forest_of t) b) {list : List ℕ}
    (parts : AreParts old.forest b list) where
  part_not_b : (k : ℕ) → part_of old.forest b k ≢ x.o.b
  part_not_b k e = omega (arith, (ring (opens may)).lower k, ap (forest_of old.forest).nest.rank (e ∙ x.is))

  -- Keys may be mended at its parts.
  pub opened_may : MayRefreshAll g (record old { forest = t }) list
  opened_may =
      let made = made_after t may.way.made x.opened.size in
      record {
        made = made;
        may = λ k l. rw (parts.each k l) (record {
          made = made;
          valid = valid;
          low = rw x.opened.size ((ring (opens may)).below k);
          used = grind (arith, part_in_use (opens may) k, (x.opened.sets _ (part_not_b k)).many);
        });
      }

  -- The search after it.
  pub opened_stepped : {new : Search} → t.root ≡ old.forest.root → IsRefreshed g (record old { forest = t }) new
      → ((k : ℕ) → k < length list → IsFreshAt g new (get_or list k 0)) → HasStepped g old new
  opened_stepped {new} root_is is here =
      let lawful = may.way.made.small.lawful in
      let valid_old : IsValid (darts_of g) (forest_of old.forest) (Some may.way.tree.0) =
      rw may.way.tree.1 at may.way.valid.valid in
      let right : (j : ℕ) → j ≤ 2 * x.o.half → IsRightIn g (forest_of t) old.risen new (x.o.q j) = λ j l.
      let p = x.opening.parts j l in
      let w = (ring (opens may)).all (x.o.q j) (p.0 ∙ x.is) (λ e. p.1 (e ∙ sym x.is)) in
      let low : w.0 < length list = rw parts.count w.1 in
      right_in old is (rw (← w.2, ← parts.each _ low) (here _ low)) in
      stepped valid is may.way (rw root_is (record {
        taken = record {
          turned = opened_turned lawful valid_old x.opening x.opened _ _
              (λ j l. (right j l).edges) (λ j l. (right j l).leaf);
          size = x.opened.size;
          weights = x.opened.weight;
          marked = search (rules, opened_inner lawful valid_old x.opening x.opened);
        };
        tree = may.way.tree;
        seeking = λ v seeking. rw seeking.root_is (seeking_opened lawful (rw seeking.root_is at may.way.valid.valid)
            x.opening x.opened (rw seeking.root_is at seeking));
        fewer = opened_fewer lawful valid_old x.opening x.opened;
      }))

-- A search has begun.
module _ {g : WeightedGraph} {old : Search} {t : ForestTables} {new : Search} (v : ℕ) (idle : IsIdle g old)
    (valid : IsValidFor g t) (is : IsRefreshed g (record old { forest = t }) new)
    (rooted_is : forest_of t ≡ rooted (forest_of old.forest) ((forest_of old.forest).out v))
    (root : t.root ≡ Some ((forest_of old.forest).out v)) where
  abbrev b : ℕ
  b = (forest_of old.forest).out v

  idle_valid : IsValid (darts_of g) (forest_of old.forest) None
  idle_valid = rw idle.no_tree at idle.valid.valid

  rooted_taken : IsRightIn g (rooted (forest_of old.forest) b) old.risen new b
      → IsTaken g old (rooted (forest_of old.forest) b) new
  rooted_taken at = grind (arith, rooted_turned g b old.risen new.tour idle_valid (at.edges ((λ inner. search rules))))

  pub begun_way : IsFreshAt g new b → IsUnderWay g new
  begun_way at = way_after valid is
      (idle_low g (forest_of old.forest) old.risen old.tour (idle_valid.no_tree refl) idle.few)
      (λ x inner. absurd (cc (idle_valid.no_tree refl x))) idle.range (subst (λ (h : Forest). IsRightIn g h old.risen
      new b → IsTaken g old h new) (sym rooted_is) rooted_taken (right_in old is at)) (b, root)

  pub begun_seeking : v < g.n → AreMatchedBefore (forest_of old.forest) v
      → IsSeeking g.n (forest_of new.forest) new.forest.root v
  begun_seeking l before = grind (arith, seeking_begun g.n (forest_of old.forest) v l before)

-- The matching has grown.
pub idle_after : {g : WeightedGraph} {old : Search} {t : ForestTables} {f : Forest} {r d : ℕ} → IsMade g old
    → ((k : ℕ) → k < length old.tour → get_or old.tour k 0 ≤ no_key)
    → IsInRange g.n old.first (forest_of old.forest) old.risen → IsValidFor g t → t.root ≡ None
    → IsAugmented (darts_of g) f (forest_of t) r d → f.size ≡ (forest_of old.forest).size
    → ((b : ℕ) → f.weight b ≡ (forest_of old.forest).weight b) → IsIdle g (record old { forest = t })
idle_after {t = t} made few range valid root w size weights =
    let size_is = ap (λ (f : Forest). f.size) w.changed ∙ size in
    assumption (
      made_after t made size_is,
      range_same (forest_of t) size_is (λ b. ap (λ (f : Forest). f.weight b) w.changed ∙ weights b) range,
    )
