-- What stays of the tie where the nest changes, and no blossom has another weight.
use Rattle.std.proofs.Common.{rules, ◌≡◌, ◌≢◌, ℕ, ◌<◌, cond, List, length, ℤ, pos, Option, None, sym, ◌∙◌, ap, inl, inr}
use Rattle.std.proofs.Common.{Bool, ◌≤ℤ◌, arith, zero, suc, ◌*◌, ◌≤◌, ◌^◌, true, false, get_or, ◌+ℤ◌, ◌+◌, [], ◌∷◌}
use Rattle.std.proofs.Common.{◌++◌, count_by, ◌-ℤ◌, refl, length-set, get_or-set_same, get_or-set_other}
use Rattle.std.proofs.{lemmas.Int.ints, lemmas.Bool.cases_eq, Math.ListN.set}
use Rattle.std.proofs.{Math.Path.fun_ext, lemmas.List.Sums.count_by-le-length, lemmas.List.Sums.sum_by-set}
use Rattle.std.proofs.lemmas.List.{get_or_append_left, get_or_push, length_push}
use Rattle.def_forest.specs.Tables.{ForestTables, climbs, label_at, out_of, up_at, weight_at, forest_of, IsOutermostIn}
use Rattle.def_forest.specs.{declared.kinds.Label.Label, declared.kinds.Label.TheVariants.Outside, Forests.set_at}
use Rattle.qm_forest.specs.Ties.{AreTied, HiddenTables, HasSizes, HasNumbers, IsLaidOut, IsPooled, IsTrailed, added}
use Rattle.qm_forest.specs.Ties.{told, potential, IsOnTrail, labelled, mated, linked}
use Rattle.{sum_laws.proofs.Sums.total_below_same, def_forest.specs.Steps.weight_change, std.specs.Prelude.unsigned_abs}
use Rattle.{def_math.specs.Sums.total_below}
use mir.{Syntax.w128, Val.to_z, Val.of_z}

-- The tie, from what is said of so many vertices and numbers of blossoms.
pub tied_as : {t : ForestTables} {hid : HiddenTables} {n size : ℕ} → length t.hand ≡ n → length t.up ≡ size
    → HasSizes t hid → IsLaidOut n size t.hand t.top t.up t.rank t.parts hid.leader hid.first hid.last hid.following
    → HasNumbers t.hand t.top t.up t.base t.label t.delta t.root hid.q hid.off
    → IsTrailed n t.hand t.top t.label t.trail hid.touched → IsPooled n size t.parts hid.pool → AreTied t hid
tied_as hands ups sizes nest numbers trail pool =
    assumption (rw (← hands, ← ups) at nest, rw (← hands) at trail, rw (← hands, ← ups) at pool)

-- The numbers, where one climbs past the same blossoms but for one without weight, as much is told of each vertex, and
-- each handle adds what some handle added.
pub numbers_kept : {t : ForestTables} {hid : HiddenTables} (tied : AreTied t hid) {b : ℕ} → weight_at t.base t.label
    t.delta b ≡ pos 0 → {hand top up : List ℕ} → length hand ≡ length t.hand → length up ≡ length t.up → ((x v : ℕ) → x
    ≢ b → v < length t.hand → climbs (up_at up) (length t.hand) x v ≡ climbs (up_at t.up) (length t.hand) x v)
    → {root : Option ℕ} → (root ≡ None → t.root ≡ None) → {q off : List ℤ} → ((v : ℕ) → v < length t.hand → told q hand
    top off t.label t.delta v ≡ told hid.q t.hand t.top hid.off t.label t.delta v) → ((v : ℕ) → v < length t.hand
    → (u : ℕ) × (u < length t.hand) × (added hand top off t.label t.delta v ≡ added t.hand t.top hid.off t.label t.delta
    u)) → HasNumbers hand top up t.base t.label t.delta root q off
numbers_kept {t} tied {b} weightless {hand} {up} hand_size up_size past root_is told_same moved = record {
  potentials = λ v l. (let lv : v < length t.hand = omega arith in
      rw (hand_size, up_size) (total_below_same _ _ (length t.up) (λ x lx.
      grind (arith, cases_eq x b, weightless, past x v))) ∙ (tied.numbers.potentials v lv ∙ sym (told_same v lv)));
  small = tied.numbers.small;
  start = tied.numbers.start;
  small_start = tied.numbers.small_start;
  moved = λ v l. (let m = moved v (omega arith) in rw (up_size, m.2) (tied.numbers.moved m.0 m.1));
  risen = (tied.numbers.risen.0, rw up_size tied.numbers.risen.1);
  still = λ none. tied.numbers.still (root_is none);
}

-- The numbers, where no blossom has another weight and no handle adds another number.
pub numbers_as : {hand top up : List ℕ} {base : List ℤ} {label : List Label} {delta : ℤ} {root : Option ℕ}
    {q off : List ℤ} → HasNumbers hand top up base label delta root q off → {base2 : List ℤ} {label2 : List Label}
    {delta2 : ℤ} {root2 : Option ℕ} {off2 : List ℤ} → weight_at base2 label2 delta2 ≡ weight_at base label delta
    → ((v : ℕ) → v < length hand → added hand top off2 label2 delta2 v ≡ added hand top off label delta v)
    → (pos 0 ≤ℤ delta2) × (delta2 ≤ℤ delta) → (root2 ≡ None → delta2 ≡ pos 0)
    → HasNumbers hand top up base2 label2 delta2 root2 q off2
numbers_as {hand} {up = up} numbers same more risen still =
    let sum = ap (λ (w : ℕ → ℤ). total_below w (length up)) same in
    record {
      potentials = λ v l. (let around = ap (λ (w : ℕ → ℤ). total_below (λ b. cond (climbs (up_at up) (length hand) b v)
          (w b) (pos 0)) (length up)) same in
          omega (arith, ints, more v l, numbers.potentials v l));
      small = λ b. omega (arith, ints, ap (λ (w : ℕ → ℤ). w b) same, numbers.small b);
      start = numbers.start;
      small_start = numbers.small_start;
      moved = λ v l. omega (arith, ints, more v l, sum, numbers.moved v l);
      risen = (risen.0, omega (arith, ints, sum, risen.1, numbers.risen.1));
      still = still;
    }

-- The trail, where each vertex of a blossom with a place in the tree has the outermost blossom that it had.
pub trail_kept : {n : ℕ} {hand top : List ℕ} {label : List Label} {trail : List ℕ} {touched : List Bool} → IsTrailed n
    hand top label trail touched → {hand2 top2 : List ℕ} → ((v : ℕ) → v < n → label_at label (out_of hand top v)
    ≢ Outside → out_of hand2 top2 v ≡ out_of hand top v) → IsTrailed n hand2 top2 label trail touched
trail_kept {hand} {top} {label} {trail} is same = search rules

-- The numbers of a forest stay small.

-- A sum of small numbers.
pub sum_small : (f : ℕ → ℤ) (n : ℕ) → ((k : ℕ) → k < n → unsigned_abs (f k) ≤ 2 ^ 62) → unsigned_abs (total_below f n)
    ≤ n * 2 ^ 62
sum_small f zero each = omega arith
sum_small f (suc n) each = omega (arith, ints, each n (omega arith), sum_small f n (λ k l. each k (omega arith)))

pub change_small : (l : Label) (d : ℤ) → unsigned_abs (weight_change l d) ≤ unsigned_abs d
change_small l d = grind (arith, ints)

module _ {t : ForestTables} {hid : HiddenTables} (tied : AreTied t hid) where
  weights_small : unsigned_abs (total_below (forest_of t).weight (length t.up)) ≤ length t.up * 2 ^ 62
  weights_small = sum_small (forest_of t).weight (length t.up) (λ k l. tied.numbers.small k)

  pub delta_small : unsigned_abs t.delta ≤ 2 ^ 92
  delta_small = omega (arith, ints, weights_small, tied.numbers.small_start, tied.numbers.risen)

  pub added_small : (v : ℕ) → v < length t.hand → unsigned_abs (added t.hand t.top hid.off t.label t.delta v) ≤ 2 ^ 92
  added_small v l = omega (arith, ints, weights_small, tied.numbers.small_start, tied.numbers.moved v l)

  pub potential_small : (v : ℕ) → unsigned_abs (potential (forest_of t) v) ≤ 2 ^ 88
  potential_small v =
      let sum = sum_small (λ b. cond ((forest_of t).holds b v) ((forest_of t).weight b) (pos 0)) (length t.up)
      (search rules) in
      omega arith

  pub told_small : (v : ℕ) → v < length t.hand → unsigned_abs (told hid.q t.hand t.top hid.off t.label t.delta v)
      ≤ 2 ^ 88
  told_small v l = rw (tied.numbers.potentials v l) at (potential_small v)

  -- An outermost blossom has a number below the size.
  pub outermost_low : (b : ℕ) → IsOutermostIn t b → b < length t.up
  outermost_low b w = rw w.2 at (tied.nest.outs _ (tied.nest.hands w.0 w.1))

  -- The vertices of an outermost blossom have one handle.
  pub one_hand : (u v : ℕ) → u < length t.hand → v < length t.hand → out_of t.hand t.top u ≡ out_of t.hand t.top v
      → get_or t.hand u 0 ≡ get_or t.hand v 0
  one_hand u v lu lv e = tied.nest.led u lu ∙ (ap (λ b. get_or hid.leader b 0) e ∙ sym (tied.nest.led v lv))

-- A small number that is kept in its bits.
pub kept_in_bits : (z : ℤ) → unsigned_abs z ≤ 2 ^ 100 → to_z w128 (of_z w128 z) ≡ z
kept_in_bits z small = omega (arith, ints)

-- What the tables at hand add to a potential.
pub added_bound : {t : ForestTables} {hid : HiddenTables} → AreTied t hid → (v : ℕ) → v < length t.hand
    → {xs : List ℤ} (h : ℕ) (l : Label) {d : ℤ}
    → xs ≡ hid.off → h ≡ get_or t.hand v 0 → l ≡ label_at t.label (out_of t.hand t.top v) → d ≡ t.delta
    → get_or xs h (pos 0) +ℤ weight_change l d ≡ added t.hand t.top hid.off t.label t.delta v
added_bound tied v low h l e1 e2 e3 e4 = rw (e1, e2, e3, e4)

-- A weight as it is kept is small.
pub base_small : {t : ForestTables} {hid : HiddenTables} → AreTied t hid → (b : ℕ)
    → unsigned_abs (get_or t.base b (pos 0)) ≤ 2 ^ 93
base_small {t} tied b =
    let change = change_small (label_at t.label b) t.delta in
    omega (arith, ints, tied.numbers.small b, delta_small tied)

-- One write to a table, or a vertex more on the trail, and what it leaves of the tie.

-- A table with one entry written, as a function.
pub entry_set : {X : Type 0} (xs : List X) (k : ℕ) (x d : X) → k < length xs → (λ j. get_or (set xs k x) j d)
    ≡ set_at (λ j. get_or xs j d) k x
entry_set xs k x d low = search rules

-- The tables are as long as they were, where those that differ are.
pub sizes_kept : {t : ForestTables} {hid : HiddenTables} → HasSizes t hid → {base off : List ℤ} {label : List Label}
    {marks : List Bool} {d : ℤ} {r : Option ℕ} {trail : List ℕ} {room : ℕ} → length base ≡ length t.base
    → length label ≡ length t.label → length off ≡ length hid.off → length marks ≡ length hid.touched → hid.room ≤ room
    → HasSizes (record t { base = base; delta = d; label = label; root = r; trail = trail })
    (record hid { off = off; touched = marks; room = room })
sizes_kept s bases labels offs size more = omega arith

-- The forest sees a mate that is written, and a link.
pub seen_mate : {t : ForestTables} {hid : HiddenTables} → AreTied t hid → (b : ℕ) (m : Option ℕ) → b < length t.up
    → forest_of (record t { mate = set t.mate b m }) ≡ mated (forest_of t) b m
seen_mate {t} tied b m low i = record (forest_of t) { mate = entry_set t.mate b m None (omega arith) i }

pub seen_link : {t : ForestTables} {hid : HiddenTables} → AreTied t hid → (b d : ℕ) → b < length t.up
    → forest_of (record t { link = set t.link b d }) ≡ linked (forest_of t) b d
seen_link {t} tied b d low i = record (forest_of t) { link = entry_set t.link b d 0 (omega arith) i }

-- Another label is written at the outermost blossom b of a vertex v with handle h.
module _ {t : ForestTables} {hid : HiddenTables} (tied : AreTied t hid) {v b h : ℕ} (low : v < length t.hand)
    (b_is : b ≡ out_of t.hand t.top v) (h_is : h ≡ get_or t.hand v 0) (l : Label) (x y : ℤ)
    (here : l ≢ Outside → IsOnTrail t.trail v) (base_is : x +ℤ weight_change l t.delta ≡ (forest_of t).weight b) (off_is
    : y +ℤ weight_change l t.delta ≡ get_or hid.off h (pos 0) +ℤ weight_change (label_at t.label b) t.delta) where
  b_low : b < length t.up
  b_low = rw b_is (tied.nest.outs _ (tied.nest.hands v low))

  label_here : label_at (set t.label b l) b ≡ l
  label_here = get_or-set_same t.label b l Outside (rw tied.sizes.label b_low)

  label_there : (k : ℕ) → k ≢ b → label_at (set t.label b l) k ≡ label_at t.label k
  label_there k ne = get_or-set_other t.label b k l Outside ne

  weight_same : weight_at (set t.base b x) (set t.label b l) t.delta ≡ (forest_of t).weight
  weight_same = let here = get_or-set_same t.base b x (pos 0) (rw tied.sizes.base b_low) in
      fun_ext (λ k. grind (arith, cases_eq k b, label_here, label_there k, get_or-set_other t.base b k x (pos 0)))

  pub seen_label : forest_of (record t { base = set t.base b x; label = set t.label b l })
      ≡ labelled (forest_of t) (out_of t.hand t.top v) l
  seen_label = at_b ∙ ap (λ k. labelled (forest_of t) k l) b_is
    where
      at_b : forest_of (record t { base = set t.base b x; label = set t.label b l }) ≡ labelled (forest_of t) b l
      at_b i = record (forest_of t) {
        weight = weight_same i;
        label = entry_set t.label b l Outside (rw tied.sizes.label b_low) i;
      }

  added_same : (u : ℕ) → u < length t.hand → added t.hand t.top (set hid.off h y) (set t.label b l) t.delta u
      ≡ added t.hand t.top hid.off t.label t.delta u
  added_same u lu = elim (cases_eq (get_or t.hand u 0) h) [
    | inl e ↦ search (rules, label_here)
    | inr ne ↦ rw (
      get_or-set_other hid.off h (get_or t.hand u 0) y (pos 0) ne,
      label_there _ (λ e. ne (one_hand tied u v lu low (e ∙ b_is) ∙ sym h_is)),
    )
  ]

  -- The tie after a label is written.
  pub tied_label : AreTied (record t { base = set t.base b x; label = set t.label b l })
      (record hid { off = set hid.off h y })
  tied_label = record {
    sizes = search rules;
    nest = tied.nest;
    numbers = numbers_as tied.numbers weight_same added_same (tied.numbers.risen.0, omega (arith, ints))
        tied.numbers.still;
    trail = record {
      low = tied.trail.low;
      counted = tied.trail.counted;
      marked = tied.trail.marked;
      named = λ k n. elim (cases_eq k b) [
        | inl e ↦ search (rules, label_here)
        | inr ne ↦ tied.trail.named k (λ off. n (label_there k ne ∙ off))
      ];
    };
    pool = tied.pool;
  }

-- One mark more.
marks_more : (marks : List Bool) (v : ℕ) → v < length marks → get_or marks v false ≡ false
    → count_by (λ mark. mark) (set marks v true) ≡ count_by (λ mark. mark) marks + 1
marks_more marks v low off = search (rules, sum_by-set)

module _ {t : ForestTables} {hid : HiddenTables} (tied : AreTied t hid) (v : ℕ) (low : v < length t.hand)
    (off : get_or hid.touched v false ≡ false) where
  v_low : v < length hid.touched
  v_low = rw tied.sizes.touched low

  -- There is room for it.
  pub trail_room : length t.trail < hid.room
  trail_room =
      let most = count_by-le-length (λ (b : Bool). b) (set hid.touched v true) in
      omega (arith, marks_more hid.touched v v_low off, length-set hid.touched v true)

  pub tied_touched : (trail : List ℕ) → trail ≡ t.trail ++ v ∷ [] → (room : ℕ) → hid.room ≤ room
      → AreTied (record t { trail = trail }) (record hid { touched = set hid.touched v true; room = room })
  tied_touched trail trail_is room more = rw trail_is (record {
    sizes = sizes_kept tied.sizes refl refl refl (length-set hid.touched v true) more;
    nest = tied.nest;
    numbers = tied.numbers;
    trail = record {
      low = λ k l. grind (arith, get_or_append_left, get_or_push, length_push, tied.trail.low k);
      counted = omega (arith, length_push t.trail v, marks_more hid.touched v v_low off);
      marked = λ u on. elim (cases_eq u v) [
        | inl e ↦ rw e (length t.trail, omega (arith, length_push t.trail v), get_or_push t.trail v 0 _ refl)
        | inr ne ↦ (let w = tied.trail.marked u (sym (get_or-set_other hid.touched v u true false ne) ∙ on) in (
          w.0,
          omega (arith, length_push t.trail v),
          get_or_append_left t.trail (v ∷ []) 0 w.0 w.1 ∙ w.2,
        ))
      ];
      named = λ b n. (let w = tied.trail.named b n in (
        w.0,
        omega (arith, length_push t.trail v),
        ap (out_of t.hand t.top) (get_or_append_left t.trail (v ∷ []) 0 w.0 w.1) ∙ w.2,
      ));
    };
    pool = tied.pool;
  })

-- One part of a number is taken for another: what it is with the new part is what it was with the old.
pub exchanged_is : {xs ys : List ℤ} {lab old : Label} (new : Label) (k : ℕ) {d e before after : ℤ} (x : ℤ) → xs ≡ ys
    → before ≡ weight_change lab e → lab ≡ old → after ≡ weight_change new e → e ≡ d → x
    ≡ (get_or xs k (pos 0) +ℤ before) -ℤ after → x +ℤ weight_change new d ≡ get_or ys k (pos 0) +ℤ weight_change old d
exchanged_is {old} new k {d} {e} x same was label now shift sum =
    let was_is = was ∙ (ap (λ (l : Label). weight_change l e) label ∙ ap (weight_change old) shift) in
    let now_is = now ∙ ap (weight_change new) shift in
    omega (arith, ints, ap (λ (zs : List ℤ). get_or zs k (pos 0)) same, sum)
