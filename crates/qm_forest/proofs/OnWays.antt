-- Steps of the tree in the tables: growing, and changing the matching along the way to the root.
use Rattle.std.proofs.Common.{rules, ◌≡◌, ◌≢◌, ℕ, ◌+◌, ◌*◌, ◌<◌, List, length, get_or, Option, Some, None, true}
use Rattle.std.proofs.Common.{is_some, sym, ◌∙◌, ap, arith}
use Rattle.def_matching.specs.Matching.{IsSmallGraph, WeightedGraph}
use Rattle.def_forest.specs.{Darts.Darts, Darts.AreDarts, Darts.darts_of, Darts.far, Forests.Forest, Forests.set_at}
use Rattle.def_forest.specs.{Steps.grown, Steps.with_mates, Steps.IsAugmented, Tables.ForestTables, Tables.forest_of}
use Rattle.def_forest.specs.{Tables.IsValidFor, Valid.IsValid, declared.kinds.Label.TheVariants.Outside, Ways.Reaches}
use Rattle.def_forest.specs.{Ways.steps, Ways.parent_of}
use Rattle.forest_laws.proofs.{Grows.named_low, Grows.tree_of, Grows.outer_mate, Grows.grown_valid, Grows.outer_named}
use Rattle.forest_laws.proofs.{Grows.some_is, Bounds.are_darts, Levels.fewer_steps, WayLaws.begin, WayLaws.turn}
use Rattle.forest_laws.proofs.{WayLaws.end_valid, WayLaws.end_augmented}
use Rattle.qm_forest.specs.Ties.{fixed_of, IsOnWay, HasSameNest, mated, remated, labelled}

-- A mate is a dart of the graph.
pub mate_low : {g : WeightedGraph} {t : ForestTables} → IsSmallGraph g → IsValidFor g t → (b m : ℕ)
    → (forest_of t).mate b ≡ Some m → m < 2 * length g.edges
mate_low is valid b m mate = (valid.valid.matched b m mate).tight.low

-- What is not empty.
pub is_some_ne : (o : Option ℕ) → is_some o ≡ true → o ≢ None
is_some_ne o e off = cc

-- Tables are valid whose forest is, where darts begin where they did.
pub valid_as : {g : WeightedGraph} {t : ForestTables} (u : ForestTables) → IsValidFor g t → fixed_of u ≡ fixed_of t
    → length u.hand ≡ length t.hand → IsValid (darts_of g) (forest_of u) u.root → IsValidFor g u
valid_as u valid fixed hand whole = grind arith

-- The forest is valid after the tree has grown.
pub valid_grown : {t : ForestTables} (u : ForestTables) {g : WeightedGraph} → IsSmallGraph g → IsValidFor g t
    → {d : ℕ} (m : ℕ) → Reaches (darts_of g) (forest_of t) d → (forest_of t).mate
    ((forest_of t).out (far (darts_of g) d)) ≡ Some m → forest_of u ≡ grown (darts_of g) (forest_of t) d m → u.hand
    ≡ t.hand → u.root ≡ t.root → fixed_of u ≡ fixed_of t → IsValidFor g u
valid_grown {t} u {g} is valid {d} m reach mate seen hand root fixed =
    let at = tree_of (are_darts is.lawful) valid.valid _ (outer_named reach.outer) in
    valid_as u valid fixed (ap length hand) (rw (seen, root ∙ at.1) (grown_valid _ (are_darts is.lawful)
    _ at.0 (rw at.1 at valid.valid) d m reach mate))

-- Another mate, seen in a forest whose mates were changed.
pub remated_more : (f0 : Forest) {f1 f2 : Forest} (mate : ℕ → Option ℕ) (b : ℕ) (m : Option ℕ) → f1 ≡ remated f0 mate
    → f2 ≡ mated f1 b m → f2 ≡ remated f0 (set_at mate b m)
remated_more f0 mate b m e1 e2 = e2 ∙ ap (λ (f : Forest). mated f b m) e1

-- The way begins.
pub way_begins : {g : WeightedGraph} {t : ForestTables} → IsSmallGraph g → IsValidFor g t → {start : ℕ}
    → Reaches (darts_of g) (forest_of t) start → (forest_of t).mate ((forest_of t).out (far (darts_of g) start)) ≡ None
    → {mate : ℕ → Option ℕ} {a : ℕ} → mate ≡ set_at (forest_of t).mate ((forest_of t).out (far (darts_of g) start))
    (Some ((darts_of g).twin start)) → a ≡ (forest_of t).out ((darts_of g).near start) → IsOnWay g t start mate a start
way_begins {g} {t} is valid {start} reach free mate_is a_is =
    let at = tree_of (are_darts is.lawful) valid.valid _ (outer_named reach.outer) in
    record {
      is = is;
      valid = valid;
      top = at.0;
      root = at.1;
      tree = at.2;
      almost = rw (a_is, mate_is) (begin (are_darts is.lawful) (rw at.1 at valid.valid) at.2 start reach free);
    }

module _ {g : WeightedGraph} {t : ForestTables} {start : ℕ} {mate : ℕ → Option ℕ} {a e : ℕ}
    (way : IsOnWay g t start mate a e) where
  abbrev pub d : Darts
  d = darts_of g

  abbrev pub f : Forest
  f = forest_of t

  are : AreDarts d
  are = are_darts way.is.lawful

  -- How many steps the root is away.
  abbrev pub far_up : ℕ → ℕ
  far_up = steps d f (f.size + 1)

  valid_top : IsValid d f (Some way.top)
  valid_top = rw way.root at way.valid.valid

  -- The blossom at hand still has its own mate.
  own_mate : mate a ≡ f.mate a
  own_mate = way.almost.kept a (outer_named way.almost.outer) (omega arith)

  -- The way goes on, past a blossom that is matched.
  pub way_goes_on : (old : ℕ) {inner up a2 e2 : ℕ} {mate2 : ℕ → Option ℕ} → mate a ≡ Some old → inner
      ≡ f.out (far d old) → up ≡ f.link inner → a2 ≡ f.out (far d up) → e2 ≡ d.twin up → mate2
      ≡ set_at (set_at mate a (Some e)) inner (Some up) → IsOnWay g t start mate2 a2 e2
  way_goes_on old was inner_is' up_is a_is e_is mate_is = record {
    is = way.is;
    valid = way.valid;
    top = way.top;
    root = way.root;
    tree = way.tree;
    almost = rw (mate_is, a_is, e_is, up_is, inner_is')
        (turn are valid_top way.tree start way.almost old (sym own_mate ∙ was));
  }

  -- And gets shorter.
  pub way_shorter : (old : ℕ) {inner up a2 : ℕ} → mate a ≡ Some old → inner ≡ f.out (far d old)
      → up ≡ f.link inner → a2 ≡ f.out (far d up) → far_up a2 < far_up a
  way_shorter old {a2} was inner_is' up_is a_is =
      let own : f.mate a ≡ Some old = sym own_mate ∙ was in
      let parent : a2 ≡ parent_of d f a = search rules in
      omega (arith, fewer_steps are valid_top way.tree a old way.almost.outer own, ap far_up parent)

  -- The blossom at hand is outermost, and its number low.
  pub way_low : a < length t.up
  way_low = named_low are way.valid.valid (outer_named way.almost.outer)

  -- Darts met on the way are darts of the graph.
  pub old_low : (old : ℕ) → mate a ≡ Some old → old < 2 * length g.edges
  old_low old was = (way.valid.valid.matched a old (sym own_mate ∙ was)).tight.low

  pub up_low : (old : ℕ) {inner up : ℕ} → mate a ≡ Some old → inner ≡ f.out (far d old)
      → up ≡ f.link inner → up < 2 * length g.edges
  up_low old was inner_is' up_is = rw (up_is, inner_is') (way.tree.inner _
      (outer_mate are valid_top a old way.almost.outer (sym own_mate ∙ was))).tight.low

  -- It ends where the blossom at hand is not matched.
  pub way_ends : mate a ≡ None → (r : ℕ) → t.root ≡ Some r → {mate2 : ℕ → Option ℕ} → mate2 ≡ set_at mate a (Some e)
      → IsValid d (with_mates f mate2) None × IsAugmented d f (with_mates f mate2) r start
  way_ends free r root is_mate =
      let own : f.mate a ≡ None = sym own_mate ∙ free in
      let r_is : way.top ≡ r = some_is way.top r (sym way.root ∙ root) in
      (rw is_mate (
        end_valid are valid_top way.tree start way.almost own,
        (rw r_is at (end_augmented are valid_top way.tree start way.almost own)),
      ))

-- The twin of a dart is one, and what begins a dart is a vertex.
pub twin_dart : {g : WeightedGraph} → IsSmallGraph g → (d : ℕ) {e : ℕ} → d < 2 * length g.edges → e
    ≡ (darts_of g).twin d → e < 2 * length g.edges
twin_dart {g} is d low e_is = rw e_is ((are_darts is.lawful).twin_low d low)

pub near_in : {g : WeightedGraph} {t : ForestTables} → IsSmallGraph g → IsValidFor g t → (d : ℕ) {v : ℕ}
    → d < 2 * length g.edges → v ≡ (darts_of g).near d → v < length t.hand
near_in {g} is valid d {v} low v_is = rw (valid.vertices, v_is) ((are_darts is.lawful).near_low d low)

-- The same blossoms, over two changes.
pub same_nest : {a b c : ForestTables} → HasSameNest a b → HasSameNest b c → HasSameNest a c
same_nest p q = grind arith

-- The outermost blossom of one more vertex of a list is put outside.
pub one_more_outside : (f1 : Forest) {f2 : Forest} (trail : List ℕ) (k : ℕ) {v : ℕ} → v ≡ get_or trail k 0
    → f2 ≡ labelled f1 (f1.out v) Outside → ((i : ℕ) → i < k → f1.label (f1.out (get_or trail i 0)) ≡ Outside)
    → (i : ℕ) → i < k + 1 → f2.label (f2.out (get_or trail i 0)) ≡ Outside
one_more_outside f1 trail k {v} v_is e2 done i l = search rules

-- What has come of an augmentation.
pub augmented : {t : ForestTables} (s u : ForestTables) {g : WeightedGraph} → IsSmallGraph g → IsValidFor g t
    → {start : ℕ} → Reaches (darts_of g) (forest_of t) start → ((r : ℕ) → t.root ≡ Some r
    → IsValid (darts_of g) (with_mates (forest_of t) (forest_of s).mate) None
    × IsAugmented (darts_of g) (forest_of t) (with_mates (forest_of t) (forest_of s).mate) r start) → forest_of s
    ≡ remated (forest_of t) (forest_of s).mate → forest_of u ≡ with_mates (forest_of s) (forest_of s).mate → u.hand
    ≡ t.hand → u.root ≡ None → fixed_of u ≡ fixed_of t → ((r : ℕ) × (t.root ≡ Some r)
    × IsAugmented (darts_of g) (forest_of t) (forest_of u) r start) × IsValidFor g u
augmented {t} s u {g} is valid {start} reach done seen ended hand root fixed =
    let at = tree_of (are_darts is.lawful) valid.valid _ (outer_named reach.outer) in
    let whole : forest_of u ≡ with_mates (forest_of t) (forest_of s).mate = search rules in
    let made = done at.0 at.1 in
    ((at.0, at.1, rw whole made.1), valid_as u valid fixed (ap length hand) (rw (whole, root) made.0))
