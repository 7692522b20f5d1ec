-- The ways to the root in the tables of a valid forest, and such ways while they are laid.
use Rattle.std.proofs.Common.{rules, ◌≡◌, ◌≢◌, ℕ, suc, ◌+◌, ◌-◌, ◌*◌, ◌<◌, ◌≤◌, true, false, length, min, Option, Some}
use Rattle.std.proofs.Common.{None, refl, sym, ◌∙◌, ap, add-one, arith, ◌/◌, get_or}
use Rattle.{std.proofs.Math.ListN.set, std.proofs.lemmas.Grind.get_or_default_zero, std.proofs.lemmas.List.get_or_past}
use Rattle.{std.proofs.lemmas.List.length-replicate, std.specs.Prelude.is_some, def_forest.specs.Needs.IsDartOf}
use Rattle.def_matching.specs.Matching.{WeightedGraph, IsSmallGraph}
use Rattle.def_forest.specs.Tables.{ForestTables, forest_of, IsValidFor, GraphSize, size_of, up_at}
use Rattle.def_forest.specs.{Darts.Darts, Darts.AreDarts, Darts.darts_of, Darts.far, Forests.Forest, Forests.set_at}
use Rattle.def_forest.specs.{Valid.IsValid, Valid.IsTree, Ways.dart_or, declared.kinds.Label.TheVariants.Outside}
use Rattle.forest_laws.specs.{Climbing.rise_of, Climbing.above_of, Climbing.level_of, Climbing.way_of, Walks.writes}
use Rattle.forest_laws.{specs.Climbing.IsClimbing, proofs.Walks.walk_sum, proofs.WayLaws.some_none}
use Rattle.forest_laws.proofs.Levels.{level_some, level_zero, on_way, step_up, at_root, way_step}
use Rattle.forest_laws.proofs.{Grows.named_low, Grows.tree_of, Bounds.are_darts, Forks.can_climb, Forks.climb_on}
use Rattle.qm_forest.specs.Rings.{AreOnBoth, HasClimbed, ringed, IsRingedAlike, MayClimb, laid_down, laid_up, laid_ring}
use Rattle.qm_forest.specs.{Needs.Hangs, Ties.AreTied, Ties.HiddenTables, Outlines.IsBlank, Rounds.HasRoom}
use Rattle.qm_forest.specs.{Rounds.IsLaminar, Rounds.IsRound, Rounds.IsSoundFor, declared.rounds.Round.Round}
use Rattle.qm_forest.proofs.{TiedWrites.entry_set, Chosens.round_begins, Withins.laminar}

module _ {g : WeightedGraph} (is : IsSmallGraph g) {s : ForestTables} (valid : IsValidFor g s) where
  abbrev darts : Darts
  darts = darts_of g

  abbrev f : Forest
  f = forest_of s

  -- The dart up from a blossom, the blossom so many steps up, and how many steps the root is away.
  abbrev rise : ℕ → Option ℕ
  rise = rise_of f

  abbrev way : ℕ → ℕ → ℕ
  way = way_of darts f

  abbrev level : ℕ → ℕ
  level = level_of darts f

  are : AreDarts darts
  are = are_darts is.lawful

  module _ (b : ℕ) (named : f.label b ≢ Outside) where
    pub the_tree : (r : ℕ) × (s.root ≡ Some r) × IsTree darts f r
    the_tree = tree_of are valid.valid b named

    rooted : IsValid darts f (Some the_tree.0)
    rooted = rw the_tree.1 at valid.valid

    -- The dart up is one of the graph.
    pub rise_dart : (d : ℕ) → rise b ≡ Some d → IsDartOf g s d
    rise_dart d e = record { vertices = valid.vertices; dart = (step_up are rooted the_tree.2 b d named e).tight.low }

    pub root_level : rise b ≡ None → level b ≡ 0
    root_level e = (at_root are rooted the_tree.2 b named e).1

    -- Places on the way from it.
    way_on : (i : ℕ) → i ≤ level b → (f.label (way b i) ≢ Outside) × (level (way b i) + i ≡ level b)
    way_on i l = on_way are rooted the_tree.2 b i named l

  -- At a place before the root there is a dart up.
  pub place_on : (a : ℕ) (named : f.label a ≢ Outside) (i : ℕ) → i < level a → (rise (way a i) ≢ None)
      × (way a i < length s.up) × (way a (suc i) < length s.up) × (dart_or (rise (way a i)) < 2 * length g.edges)
  place_on a named i l =
      let here = way_on a named i (omega arith) in (
        some_none _ _ (level_some are (rooted a named) (the_tree a named).2 _ here.0 (omega arith)).1,
        named_low are valid.valid here.0,
        named_low are valid.valid (way_on a named (suc i) l).0,
        (way_step are (rooted a named) (the_tree a named).2 a i named l).tight.low,
      )

  -- A climber is in the tree, and so many levels nearer to the root.
  pub climbed : {b : ℕ} → f.label b ≢ Outside → {at count : ℕ} → HasClimbed darts f b at count
      → (f.label at ≢ Outside) × (level at + count ≡ level b)
  climbed {b} named {count} is = rw is.way (way_on b named count is.low)

  -- The blossom that the dart up reaches is one level nearer to the root, and there a climber from below comes to next.
  pub far_way : {b : ℕ} → f.label b ≢ Outside → {at count : ℕ} (d : ℕ) {x : ℕ} → HasClimbed darts f b at count
      → rise at ≡ Some d → x ≡ f.out (far darts d) → (level at ≡ suc (level x)) × HasClimbed darts f b x (count + 1)
  far_way {b} named {at} {count} d {x} is rises x_is =
      let here = climbed named is in
      let up : x ≡ above_of darts f at = x_is ∙ sym (ap (λ o. f.out (far darts (dart_or o))) rises) in
      let step = step_up are (rooted at here.0) (the_tree at here.0).2 at d here.0 rises in
      let next : level at ≡ suc (level x) = step.lower ∙ ap (λ y. suc (level y)) (sym up) in
      (next, rw (add-one count) (record { way = up ∙ ap (above_of darts f) is.way; low = omega (arith, here.1, next) }))

  -- Each climber's level tells how far the other has come, where there is a blossom that both come to.
  module _ {a c high low : ℕ} (named_a : f.label a ≢ Outside) (named_c : f.label c ≢ Outside)
      (both : AreOnBoth darts f a c high low) where
    -- No climber goes past it. The higher climber:
    both_order : {x y i j : ℕ} → IsClimbing darts f a c x y i j → low - j ≤ high - i → level c - j ≤ level a - i
    both_order is order =
        let left = is.left high low both.left_low both.right_low both.met in
        let met = ap level both.met in
        omega (arith, (way_on a named_a high both.left_low).1, (way_on c named_c low both.right_low).1)

    pub both_hangs : {x y i j : ℕ} → IsClimbing darts f a c x y i j → x ≢ y → low - j ≤ high - i → Hangs g s x
    both_hangs {i} is ne order = record {
      valid = valid;
      named = rw is.x_is (way_on a named_a i is.x_low).0;
      below = rw is.x_is (place_on a named_a i (can_climb are (rooted a named_a)
          (the_tree a named_a).2 a c named_a named_c is ne (both_order is order))).0;
    }

    pub both_turn : {x y x2 i j : ℕ} → IsClimbing darts f a c x y i j → x ≢ y → low - j ≤ high - i
        → x2 ≡ above_of darts f x → IsClimbing darts f a c x2 y (i + 1) j × (i + 1 ≤ high)
    both_turn {i} is ne order x2_is =
        let turn = climb_on are (rooted a named_a) (the_tree a named_a).2 a c named_a named_c is ne
        (both_order is order) x2_is in
        (rw (add-one i) turn, omega (arith, turn.left high low both.left_low both.right_low both.met))

  -- One climb after another.
  pub climbed_on : {b : ℕ} → f.label b ≢ Outside → {at first : ℕ} {x : ℕ} (more : ℕ)
      → HasClimbed darts f b at first → x ≡ way at more → more ≤ level at → HasClimbed darts f b x (first + more)
  climbed_on {b} named {at} {first} more is x_is low = search (rules, walk_sum, climbed)

  -- Where a climber is not at the root, some steps bring him nearer.
  pub climbed_nearer : (at : ℕ) {next steps : ℕ} (reach : ℕ) → f.label at ≢ Outside → (d : ℕ) × (rise at ≡ Some d)
      → next ≡ way at steps → steps ≡ min reach (level at) → 1 ≤ reach → level next < level at
  climbed_nearer at {next} {steps} reach named up next_is steps_is some =
      let low : steps ≤ level at = omega arith in
      let came : HasClimbed darts f at next steps = record { way = next_is; low = low } in
      let here = climbed named came in
      let step = step_up are (rooted at named) (the_tree at named).2 at up.0 named up.1 in
      omega (arith, here.1, step.lower)

  -- The root is on all ways.
  pub root_on_both : {a : ℕ} (c : ℕ) {at left : ℕ} → f.label a ≢ Outside → f.label c ≢ Outside
      → HasClimbed darts f a at left → rise at ≡ None → AreOnBoth darts f a c left (level c)
  root_on_both {a} c {at} named_a named_c is off =
      let tree = (the_tree a named_a).2 in
      let last = way_on c named_c (level c) (omega arith) in
      let end = level_zero are (rooted a named_a) tree _ last.0 (omega (arith, last.1)) in
      let here = (at_root are (rooted a named_a) tree at (climbed named_a is).0 off).0 in
      record { met = sym is.way ∙ (here ∙ sym end); left_low = is.low; right_low = omega arith }

-- What is in an option.
pub some_of : (o : Option ℕ) → is_some o ≡ true → (d : ℕ) × (o ≡ Some d)
some_of None e = absurd (cc e)
some_of (Some d) e = (d, refl)

pub none_of : (o : Option ℕ) → is_some o ≡ false → o ≡ None
none_of o e = grind arith

-- The two may change places.
pub both_swapped : {g : Darts} {f : Forest} {a c left right : ℕ} → AreOnBoth g f a c left right
    → AreOnBoth g f c a right left
both_swapped both = record { met = sym both.met; left_low = both.right_low; right_low = both.left_low }

-- Tables that differ in what is laid alone, over two changes.
pub alike_more : (a b c : ForestTables) → IsRingedAlike a b → IsRingedAlike b c → IsRingedAlike a c
alike_more a b c p q = q ∙ ap (λ (t : ForestTables). record t { after = c.after; joint = c.joint }) p

-- What is known at a place on the way.
pub record IsLaidPlace (g : WeightedGraph) (t0 t : ForestTables) (a i x : ℕ) : Type 0 where
  pub low : x < length t.up
  pub some : rise_of (forest_of t) x ≢ None
  pub dart : IsDartOf g t (dart_or (rise_of (forest_of t) x))
  pub next : (forest_of t).out (far (darts_of g) (dart_or (rise_of (forest_of t) x)))
      ≡ way_of (darts_of g) (forest_of t0) a (suc i)
  pub next_low : way_of (darts_of g) (forest_of t0) a (suc i) < length t.up
  pub same : rise_of (forest_of t) x ≡ rise_of (forest_of t0) (way_of (darts_of g) (forest_of t0) a i)

pub laid_place : {g : WeightedGraph} → IsSmallGraph g → (t0 : ForestTables) (a steps : ℕ) → MayClimb g t0 a steps
    → (i : ℕ) → i < steps → {x : ℕ} → x ≡ way_of (darts_of g) (forest_of t0) a i → (t : ForestTables)
    → IsRingedAlike t0 t → IsLaidPlace g t0 t a i x
laid_place is t0 a steps may i l x_is t alike =
    let at = place_on is may.1 a may.3 i (omega arith) in
    rw (x_is, alike, may.2) (assumption (at, may.1))

-- One step more is laid, upwards or downwards.
pub laid_more : (f0 : Forest) {f1 f2 : Forest} (place value dart : ℕ → ℕ) (i : ℕ) {p v e : ℕ}
    → f1 ≡ ringed f0 (writes f0.nest.after place value i) (writes f0.nest.joint place dart i)
    → f2 ≡ ringed f1 (set_at f1.nest.after p v) (set_at f1.nest.joint p e) → p ≡ place i → v ≡ value i → e ≡ dart i
    → f2 ≡ ringed f0 (writes f0.nest.after place value (suc i)) (writes f0.nest.joint place dart (suc i))
laid_more f0 place value dart i e1 e2 p_is v_is e_is = e2 ∙ rw (e1, p_is, v_is, e_is)

-- The forest sees what is laid.
pub seen_lay : {t : ForestTables} {hid : HiddenTables} → AreTied t hid → (x next dart : ℕ) → x < length t.up
    → forest_of (record t { after = set t.after x next; joint = set t.joint x dart })
    ≡ ringed (forest_of t) (set_at (forest_of t).nest.after x next) (set_at (forest_of t).nest.joint x dart)
seen_lay {t} tied x next dart low i = record (forest_of t) {
  nest = record ((forest_of t).nest) {
    after = entry_set t.after x next 0 (omega arith) i;
    joint = entry_set t.joint x dart 0 (omega arith) i;
  };
}

-- The whole ring is laid: one way down, the edge over, the other way up.
pub laid_whole : (g : Darts) (f0 : Forest) {f1 f2 f3 : Forest} (start : ℕ) {a c : ℕ} (left right : ℕ) → a ≡ f0.out
    (g.near start) → c ≡ f0.out (far g start) → f1 ≡ laid_down g f0 a left → f2 ≡ ringed f1 (set_at f1.nest.after a c)
    (set_at f1.nest.joint a start) → f3 ≡ laid_up g f2 c right → f3 ≡ laid_ring g f0 start left right
laid_whole g f0 {f1} {f2} start left right a_is c_is e1 e2 e3 =
    let down : f1 ≡ laid_down g f0 (f0.out (g.near start)) left = e1 ∙ ap (λ x. laid_down g f0 x left) a_is in
    let over : f2 ≡ ringed (laid_down g f0 (f0.out (g.near start)) left)
    (set_at (laid_down g f0 (f0.out (g.near start)) left).nest.after (f0.out (g.near start)) (f0.out (far g start)))
    (set_at (laid_down g f0 (f0.out (g.near start)) left).nest.joint (f0.out (g.near start)) start) =
    e2 ∙ rw (down, a_is, c_is) in
    e3 ∙ (ap (λ x. laid_up g f2 x right) c_is ∙ ap (λ (f : Forest). laid_up g f (f0.out (far g start)) right) over)

-- Tied tables with another room, and room that is blank.

-- What tied tables say of the way out.
pub record IsPlaced (t : ForestTables) : Type 0 where
  pub known : IsLaminar t
  pub whole : length t.up ≡ length t.hand + length t.hand / 2
  pub around : (x : ℕ) → up_at t.up x ≢ x → (length t.hand ≤ up_at t.up x) × (up_at t.up x < length t.up)
      × (get_or t.parts (up_at t.up x) 0 ≢ 0)
  pub inner : (x : ℕ) → up_at t.up x ≢ x → x < length t.up
  pub live : (x : ℕ) → up_at t.up x ≢ x → length t.hand ≤ x → get_or t.parts x 0 ≢ 0

pub placed : {t : ForestTables} {hid : HiddenTables} → AreTied t hid → IsPlaced t
placed {t} tied = let known = laminar tied in
    grind (arith, tied.nest.around, tied.nest.ups, tied.nest.idle, get_or_past, get_or_default_zero t.up)

-- The room of a forest is as large as what it comes to.
module _ {t : ForestTables} (it : IsPlaced t) {g : WeightedGraph} (valid : IsSoundFor g t) {n : ℕ} {round : Round}
    {sets y z : ℕ} (blank : IsBlank n round sets y z) {s : GraphSize} (view_is : ◌≡◌ {A = GraphSize}
    (record { vertices = n; edges = length round.marks.items }) s) (room : s ≡ size_of g) where
  pub has_room : HasRoom t round
  has_room = search (rules, length-replicate)

  pub room_begun : IsRound t round.marks.items round.left_out.items (λ b. 0) (λ b. 0)
  room_begun = round_begins t _ _ (λ b. 0) blank.marks blank.left_out (λ v l. omega arith)
