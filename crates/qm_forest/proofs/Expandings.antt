-- Blossoms of a ring that leave the tree, and the set that is closed of them; or that are matched, or hung into it.
use Rattle.std.proofs.Common.{rules, ◌≡◌, ℕ, suc, ◌-◌, ◌%◌, ◌<◌, Bool, eqb, length, get_or, Some}
use Rattle.std.proofs.Common.{None, ◌∙◌, ◌≢◌, ◌*◌, true, refl, sym, ap, subst}
use Rattle.{std.proofs.lemmas.List.get_or_read, qm_forest.specs.declared.expanding.Course.Course}
use Rattle.def_forest.specs.Tables.{ForestTables, out_of, IsOutermostIn, forest_of, IsValidFor}
use Rattle.def_forest.specs.{Forests.Forest, Forests.walk, declared.kinds.Label.TheVariants.Outside}
use Rattle.def_forest.specs.{declared.kinds.Label.Label, Darts.Darts, Darts.darts_of, Opened.IsExpanding, Ways.dart_or}
use Rattle.qm_forest.specs.Parts.{hung, paired, side_dart, turn_label, HasOpened, IsCourse, IsParted}
use Rattle.qm_forest.specs.Ties.{AreTied, HiddenTables, HasSameNest, labelled, linked, mated, fixed_of}
use Rattle.qm_forest.proofs.Inners.{CanOpen, are, inside as the_inside, in_tree, mate_is, part_low, tree_is}
use Rattle.qm_forest.proofs.Openings.{expanding, first_in, joined, laid, last_in, ring_from}
use Rattle.qm_forest.proofs.{Enclosed.leader_out, TiedWrites.outermost_low, OnWays.valid_as}
use Rattle.forest_laws.proofs.{Walks.IsCircle, Expands.opened_valid}
use Rattle.{def_matching.specs.Matching.WeightedGraph, forest_laws.specs.Walks.listed}

-- A blossom stays outermost where the handles are the same.
pub outermost_kept : {t u : ForestTables} {x y : ℕ} → HasSameNest t u → x ≡ y → IsOutermostIn t y → IsOutermostIn u x
outermost_kept same e w = rw (e, same.hand, same.top) w

-- A place of the ring is the number of a blossom.
pub place_low : {t u : ForestTables} (x y : ℕ) → HasSameNest t u → x ≡ y → y < length t.up → x < length u.up
place_low {u} x y same e l = rw (e, same.up) l

pub paired_more : (f0 : Forest) {f1 f2 : Forest} (front k : ℕ) {j before x dart : ℕ} → f1 ≡ paired f0 front k
    → f2 ≡ mated f1 x (Some dart) → dart ≡ side_dart f1 before x (eqb (k % 2) 1)
    → x ≡ walk f0.nest.after front k → before ≡ walk f0.nest.after front (k - 1) → j ≡ suc k → f2 ≡ paired f0 front j
paired_more f0 front k e1 e2 dart_is x_is before_is j_is = e2 ∙ rw (dart_is, x_is, before_is, e1, j_is)

pub hung_more : (f0 : Forest) {f1 f2 f3 : Forest} (front k : ℕ) {j before x : ℕ} (v : ℕ) {dart : ℕ} {l : Label}
    (s : Bool) → f1 ≡ hung f0 front k s → f2 ≡ labelled f1 (f1.out v) l → f3 ≡ linked f2 x dart → f1.out v ≡ x
    → l ≡ turn_label k → dart ≡ side_dart f2 before x s → x ≡ walk f0.nest.after front k
    → before ≡ walk f0.nest.after front (k - 1) → j ≡ suc k → f3 ≡ hung f0 front j s
hung_more f0 front k v s e1 e2 e3 v_is l_is dart_is x_is before_is j_is = search rules

-- The leader of an outermost blossom is a vertex of it.
pub leader_of : {t : ForestTables} {hid : HiddenTables} → AreTied t hid → (b : ℕ) {v : ℕ} {u : ForestTables} → t ≡ u
    → IsOutermostIn t b → v ≡ get_or hid.leader b v → out_of u.hand u.top v ≡ b
leader_of {hid = hid} tied b e w read =
    let low : b < length hid.leader = rw tied.sizes.leader (outermost_low tied b w) in
    let v_is = get_or_read hid.leader b _ low read 0 in
    rw (← e, v_is) (rw w.2 at (leader_out tied.nest w.0 w.1))

-- Expanding, step by step: what each of its calls needs, and the forest after all of them.

module _ {g : WeightedGraph} {t0 : ForestTables} {b : ℕ} (ready : CanOpen g t0 b) where
  -- The set is matched, and its darts are darts of the graph.
  pub matched : (forest_of t0).mate b ≢ None
  matched none = absurd (cc ((in_tree ready).mate, none))

  mate_dart_is : {x : ℕ} → x ≡ dart_or ((forest_of t0).mate b) → x ≡ (in_tree ready).dart
  mate_dart_is e = e ∙ ap dart_or (in_tree ready).mate

  pub mate_low : {x : ℕ} → x ≡ dart_or ((forest_of t0).mate b) → x < 2 * length g.edges
  mate_low e = rw (mate_dart_is e) (mate_is ready).tight.low

  pub link_low : {x : ℕ} → x ≡ (forest_of t0).link b → x < 2 * length g.edges
  link_low e = rw e (in_tree ready).tight.low

  pub vertex_low : {t2 : ForestTables} → HasOpened t0 t2 b → (v x : ℕ) → v ≡ (darts_of g).near x
      → x < 2 * length g.edges → v < length t2.hand
  vertex_low opened v x e l = rw (opened.hand, ap length opened.same.hand, ready.valid.vertices, e)
      ((are ready).near_low x l)

-- An inner set of weight 0 that has been opened: the darts by which it was matched and linked, the parts in which they
-- begin, and how many parts there are.
pub record Expanding (g : WeightedGraph) (t0 t2 : ForestTables) (b mate link first last many : ℕ) : Type 0 where
  pub ready : CanOpen g t0 b
  pub opened : HasOpened t0 t2 b
  pub mate_is : mate ≡ dart_or ((forest_of t0).mate b)
  pub link_is : link ≡ (forest_of t0).link b
  pub first_is : first ≡ (forest_of t2).out ((darts_of g).near mate)
  pub last_is : last ≡ (forest_of t2).out ((darts_of g).near link)
  pub many_is : many ≡ (forest_of t0).nest.parts b

module _ {g : WeightedGraph} {t0 t2 : ForestTables} {b mate link first last many : ℕ}
    (it : Expanding g t0 t2 b mate link first last many) where
  open it use {ready, ready.{is, valid}, opened, link_is, many_is}

  abbrev f2 : Forest
  f2 = forest_of t2

  abbrev f0 : Forest
  f0 = forest_of t0

  abbrev d : Darts
  d = darts_of g

  parted : IsParted g.n (mated (labelled f0 b Outside) b None) f2
      (listed f0.nest.after (f0.nest.head b) (f0.nest.parts b)) b
  parted = rw (ap length opened.same.hand ∙ valid.vertices) at (subst (λ (x : Forest). IsParted
      (length opened.left.hand) x f2 (listed x.nest.after (x.nest.head b) (x.nest.parts b)) b) opened.gone opened.is)

  abbrev inside : ℕ → Bool
  inside = the_inside ready

  m_is : mate ≡ (in_tree ready).dart
  m_is = mate_dart_is ready it.mate_is

  first_is : first ≡ f2.out (d.near (in_tree ready).dart)
  first_is = it.first_is ∙ ap (λ x. f2.out (d.near x)) m_is

  last_is : last ≡ f2.out (d.near (f0.link b))
  last_is = it.last_is ∙ ap (λ x. f2.out (d.near x)) link_is

  first_marked : inside first ≡ true
  first_marked = ap inside first_is ∙ first_in ready parted

  last_marked : inside last ≡ true
  last_marked = ap inside last_is ∙ last_in ready parted

  circle_at : (x : ℕ) → inside x ≡ true → IsCircle f2.nest.after x (f0.nest.parts b) inside
  circle_at = ring_from ready parted

  pub places_low : (k : ℕ) → k < many → walk f2.nest.after first k < length t2.up
  places_low k l = rw parted.size (part_low ready _ ((circle_at first first_marked).marked k))

  -- The parts are matched.
  module _ {t3 : ForestTables} (seen3 : forest_of t3 ≡ mated (paired f2 first many) first (Some mate))
      (same3 : HasSameNest t2 t3) where
    after3 : (forest_of t3).nest.after ≡ f2.nest.after
    after3 = ap (λ (f : Forest). f.nest.after) seen3

    at3 : (x k : ℕ) → walk (forest_of t3).nest.after x k ≡ walk f2.nest.after x k
    at3 x k = ap (λ (h : ℕ → ℕ). walk h x k) after3

    pub reached3 : (k : ℕ) × (k < many) × (walk (forest_of t3).nest.after first k ≡ last)
    reached3 = let w = (circle_at first first_marked).all last last_marked in
        (w.0, subst (λ n. w.0 < n) (sym many_is) w.1, at3 first w.0 ∙ w.2)

    -- And hung into the tree.
    module _ {course : Course} (way : IsCourse (forest_of t3).nest.after first last many course) where
      pub tops3 : (k : ℕ) → k < course.many → IsOutermostIn t3 (walk (forest_of t3).nest.after course.front k)
      tops3 k l =
          let front : inside course.front ≡ true = search (rules, first_marked, last_marked) in
          let j = joined ready parted _ ((circle_at _ front).marked k) in
          outermost_kept same3 (at3 _ k) (d.near _, vertex_low ready opened _ _ refl j.tight.low, j.near_part)

      pub expanded : (t4 : ForestTables)
          → forest_of t4 ≡ hung (forest_of t3) course.front course.many course.forward → (t6 : ForestTables)
          → forest_of t6 ≡ linked (forest_of t4) last link → length t6.hand ≡ length t2.hand → t6.root ≡ t0.root
          → fixed_of t6 ≡ fixed_of t2 → IsExpanding d f0 (forest_of t6) b × (t6.root ≡ t0.root) × IsValidFor g t6
      expanded t4 seen4 t6 seen6 hand root fixed =
          let done : forest_of t6 ≡ laid ready parted course.front course.many course.forward =
          seen6 ∙ (ap (λ (f : Forest). linked f last link) (seen4 ∙ ap (λ (f : Forest). hung f course.front course.many
          course.forward) seen3) ∙ rw (first_is, many_is, m_is, last_is, link_is)) in
          let is = expanding ready parted (rw (after3, first_is, last_is, many_is) at way) done in
          let tree = tree_is ready in
          let whole = valid_as t6 valid (fixed ∙ (opened.fixed ∙ opened.same.fixed)) (hand ∙ (opened.hand
          ∙ ap length opened.same.hand)) (rw (root, tree.1) (opened_valid {f = f0} {o = is.o}
          (assumption (are ready, rw tree.1 at valid.valid, is, tree)))) in
          (is, root, whole)
