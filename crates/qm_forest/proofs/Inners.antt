-- An inner set of weight 0 of a valid forest: its ring, its place in the tree, and its parts.
use Rattle.std.proofs.Common.{rules, ◌≡◌, ◌≢◌, ℕ, suc, ◌<◌, ◌≤◌, Bool, true, eqb}
use Rattle.std.proofs.Common.{length, pos, Some, None, sym, ◌∙◌, ap, arith}
use Rattle.std.proofs.lemmas.Bool.{eq-eqb, eqb-true}
use Rattle.def_matching.specs.Matching.{WeightedGraph, IsSmallGraph}
use Rattle.def_forest.specs.{Darts.AreDarts, Darts.Darts, Darts.darts_of}
use Rattle.def_forest.specs.{Forests.Forest, Forests.IsOutermost, Forests.walk, Tables.ForestTables}
use Rattle.def_forest.specs.{Tables.forest_of, Tables.IsOutermostIn, Tables.IsValidFor, Valid.IsInner}
use Rattle.def_forest.specs.{Valid.IsMate, Valid.IsRing, Valid.IsTree}
use Rattle.def_forest.specs.declared.kinds.Label.TheVariants.{Inner, Outside}
use Rattle.forest_laws.proofs.Walks.{IsCircle, listed_at, listed_closed, listed_place}
use Rattle.forest_laws.proofs.Grows.{inner_named, label_cases, set_here}
use Rattle.forest_laws.proofs.{Grows.named_low, Grows.tree_of, Grows.true_false, Expands.holds_up}
use Rattle.forest_laws.proofs.{Bounds.are_darts}
use Rattle.qm_forest.specs.Parts.{IsPartable}
use Rattle.qm_forest.specs.{Ties.HasSameNest, Ties.labelled, Ties.mated}
use Rattle.{forest_laws.specs.Walks.listed}

-- An inner set of weight 0 of a valid forest.
pub record CanOpen (g : WeightedGraph) (t0 : ForestTables) (b : ℕ) : Type 0 where
  pub is : IsSmallGraph g
  pub valid : IsValidFor g t0
  pub high : g.n ≤ b
  pub inner : (forest_of t0).label b ≡ Inner
  pub weightless : (forest_of t0).weight b ≡ pos 0

module _ {g : WeightedGraph} {t0 : ForestTables} {b : ℕ} (ready : CanOpen g t0 b) where
  open ready use {is, valid, high, inner, weightless}

  abbrev d : Darts
  d = darts_of g

  abbrev f0 : Forest
  f0 = forest_of t0

  abbrev many : ℕ
  many = f0.nest.parts b

  abbrev pub inside : ℕ → Bool
  inside = listed f0.nest.after (f0.nest.head b) (f0.nest.parts b)

  pub are : AreDarts d
  are = are_darts is.lawful

  pub top_is : IsOutermost g.n f0 b
  top_is = valid.valid.outermost.named b (inner_named inner)

  pub set_top : IsOutermostIn t0 b
  set_top = (top_is.0, rw valid.vertices top_is.1, top_is.2)

  pub set_low : b < length t0.up
  set_low = named_low are valid.valid (inner_named inner)

  held_b : (v : ℕ) → v < g.n → f0.holds b v ≡ eqb (f0.out v) b
  held_b v l = rw top_is.2 at (valid.valid.outermost.held _ v top_is.1 l)

  pub set_live : many ≢ 0
  set_live none = true_false (held_b _ top_is.1 ∙ eq-eqb (f0.out _) b top_is.2)
      (valid.valid.nested.empty b _ high top_is.1 none)

  pub ring_is : IsRing d f0 b
  ring_is = valid.valid.nested.rings b high set_live

  pub tree_is : (r : ℕ) × (t0.root ≡ Some r) × IsTree d f0 r
  tree_is = tree_of are valid.valid b (inner_named inner)

  pub in_tree : IsInner d f0 tree_is.2.depth b
  in_tree = tree_is.2.inner b inner

  pub mate_is : IsMate d f0 b in_tree.dart
  mate_is = valid.valid.matched b in_tree.dart in_tree.mate

  -- The parts are at the places of the ring.
  part_place : (x : ℕ) → inside x ≡ true → (k : ℕ) × (k < many) × (walk f0.nest.after (f0.nest.head b) k ≡ x)
  part_place = listed_place _ _ many

  pub part_around : (x : ℕ) → inside x ≡ true → f0.nest.up x ≡ b
  part_around x on = ap f0.nest.up (sym (part_place x on).2) ∙ ring_is.inside _

  pub part_other : (x : ℕ) → inside x ≡ true → x ≢ b
  part_other x on e = search (rules, part_place)

  pub part_low : (x : ℕ) → inside x ≡ true → x < f0.size
  part_low x on = rw (part_place x on).2 at (ring_is.below (part_place x on).0)

  pub around_part : (x : ℕ) → f0.nest.up x ≡ b → x ≢ b → inside x ≡ true
  around_part x up ne = (let w = ring_is.all x up ne in ap inside (sym w.2) ∙ listed_at _ _ many w.0 w.1)

  -- Each part lies in the set, and so does what it holds.
  pub part_inner : (x : ℕ) → inside x ≡ true → f0.nest.up x ≢ x
  part_inner x on e = part_other x on (sym e ∙ part_around x on)

  -- Parts are outside the tree.
  pub part_outside : (x : ℕ) → inside x ≡ true → f0.label x ≡ Outside
  part_outside x on = let named = valid.valid.outermost.named x in
      grind (arith, label_cases (f0.label x), valid.valid.outermost.tops, part_inner x on)

  pub circle_is : IsCircle f0.nest.after (f0.nest.head b) many inside
  circle_is = search (rules, ring_is, ring_is.distinct, listed_closed, part_place)

  pub next_part : (x : ℕ) → inside x ≡ true → inside (f0.nest.after x) ≡ true
  next_part x on = rw (part_place x on).2 at (circle_is.marked (suc (part_place x on).0))

  pub part_in : (x v : ℕ) → inside x ≡ true → v < g.n → f0.holds x v ≡ true → f0.out v ≡ b
  part_in x v on l held = eqb-true (f0.out v) b (sym (held_b v l) ∙ (rw (part_around x on) at
      (holds_up valid.valid.nested x v l (part_inner x on) held)))

  -- The tables, once the set has left the tree, can be parted.
  pub partable : (t1 : ForestTables) → forest_of t1 ≡ mated (labelled f0 b Outside) b None → HasSameNest t0 t1
      → IsPartable t1 b
  partable t1 gone same = record {
    high = rw (same.hand, valid.vertices) high;
    low = rw same.up set_low;
    top = (set_top.0, rw same.hand set_top.1, ap (λ (f : Forest). f.out set_top.0) gone ∙ set_top.2);
    outside = ap (λ (f : Forest). f.label b) gone ∙ set_here f0.label b Outside;
    weightless = ap (λ (f : Forest). f.weight b) gone ∙ weightless;
    live = λ none. set_live (sym many1 ∙ none);
    row = record {
      some = rw many1 circle_is.some;
      low = λ k l. rw (at1 k, same.up) (ring_is.below k);
      distinct = λ i j lij lj e. ring_is.distinct i j lij (rw many1 at lj) (sym (at1 i) ∙ (e ∙ at1 j));
    };
    around = λ k l. ap (λ (f : Forest). f.nest.up (walk f.nest.after (f.nest.head b) k)) gone ∙ ring_is.inside k;
    other = λ k l e. part_other (walk f0.nest.after (f0.nest.head b) k) (circle_is.marked k) (sym (at1 k) ∙ e);
    all = λ p up ne. (let w : (k : ℕ) × (k < many) × (walk f0.nest.after (f0.nest.head b) k ≡ p) =
        ring_is.all p (sym (ap (λ (f : Forest). f.nest.up p) gone) ∙ up) ne in (w.0, rw many1 w.1, at1 w.0 ∙ w.2));
  }
    where
      many1 : (forest_of t1).nest.parts b ≡ many
      many1 = ap (λ (f : Forest). f.nest.parts b) gone

      at1 : (k : ℕ) → walk (forest_of t1).nest.after ((forest_of t1).nest.head b) k
          ≡ walk f0.nest.after (f0.nest.head b) k
      at1 k = ap (λ (f : Forest). walk f.nest.after (f.nest.head b) k) gone
