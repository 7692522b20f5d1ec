-- Two climbers in a valid forest: each turn keeps what they know, and brings them nearer.
use Rattle.std.proofs.Common.{rules, ◌≡◌, ◌≢◌, ℕ, suc, ◌+◌, ◌-◌, ◌*◌, ◌<◌, ◌≤◌, ◌^◌, length, get_or, ℤ, pos, ◌+ℤ◌, ◌⊎◌}
use Rattle.std.proofs.Common.{refl, sym, ◌∙◌, ap, inl, inr, arith, ◌≤ℤ◌, Some, None, subst}
use Rattle.def_forest.specs.Tables.{up_at, ForestTables, forest_of, label_at, IsValidFor, out_of}
use Rattle.def_forest.specs.{declared.kinds.Label.Label, Darts.darts_of, Valid.IsFeasible, Valid.IsValid}
use Rattle.def_forest.specs.Forests.{weight_between, Forest, dual_sum_of}
use Rattle.def_forest.specs.Steps.{weight_change, shifted, rooted}
use Rattle.forest_laws.proofs.Grows.{label_cases, potential_shifted, rooted_valid}
use Rattle.forest_laws.proofs.{Bounds.are_darts, Shifts.sum_rises, Shifts.shift_valid}
use Rattle.qm_forest.specs.Ties.{IsClimb, IsWithin, IsMeeting, apart, fixed_of, AreTied, HiddenTables, potential, added}
use Rattle.qm_forest.proofs.Fresh.{can_climb, rank_low, apart_step, apart_order, apart_met, apart_small}
use Rattle.{std.proofs.lemmas.Int.ints, std.specs.Prelude.unsigned_abs, std.specs.Prelude.slice_index}
use Rattle.{def_matching.specs.Matching.WeightedGraph, def_matching.specs.Matching.IsGraph, qm_forest.specs.Ties.told}
use Rattle.{qm_forest.proofs.TiedWrites.sizes_kept, qm_forest.proofs.OnWays.valid_as}

module _ {g : WeightedGraph} {t : ForestTables} (valid : IsValidFor g t) (climb : IsClimb (length t.hand) (up_at t.up)
    (forest_of t).out) (few : length t.up ≤ 2 ^ 26) (small : (b : ℕ) → unsigned_abs ((forest_of t).weight b)
    ≤ 2 ^ 62) where
  abbrev up : ℕ → ℕ
  up = up_at t.up

  abbrev rank : ℕ → ℕ
  rank = slice_index t.rank

  -- Ranks rise.
  rises : (x : ℕ) → up x ≢ x → rank x < rank (up x)
  rises x inner =
      let live = valid.valid.nested.live x inner in
      let ring = valid.valid.nested.rings (up x) live.0 live.1 in
      let w = ring.all x refl (λ e. inner (sym e)) in
      rw w.2 at (ring.lower w.0)

  -- The weight of a blossom that is not outermost is as it is kept.
  base_is : (x : ℕ) → up x ≢ x → get_or t.base x (pos 0) ≡ (forest_of t).weight x
  base_is x inner = let named = valid.valid.outermost.named x in
      grind (arith, ints, label_cases (label_at t.label x), valid.valid.outermost.tops)

  abbrev passing : ℕ → ℕ → ℤ
  passing x y = apart (length t.hand) up (forest_of t).weight (length t.up) x y

  passed_small : (x y : ℕ) → unsigned_abs (passing x y) ≤ length t.up * 2 ^ 62
  passed_small x y = apart_small (length t.hand) up (forest_of t).weight (length t.up) x y small

  -- One is within where one is.
  within_up : (b x : ℕ) → IsWithin t b x → IsWithin t b (up x)
  within_up b x w = (w.0, w.1, w.2, suc w.3, ap up w.4)

  within_rank : (b x : ℕ) → IsWithin t b x → rank x ≤ rank b
  within_rank b x w = rw w.2 at (rank_low rank climb rises w.0 x w.1 (w.3, w.4))

  within_climbs : (b x y : ℕ) → IsWithin t b x → IsWithin t b y → x ≢ y → rank x ≤ rank y → up x ≢ x
  within_climbs b x y wx wy ne le = can_climb rank climb rises wx.0 wy.0 x y wx.1
      wy.1 (wx.2 ∙ sym wy.2) (wx.3, wx.4) (wy.3, wy.4) ne le

  module _ {u v x y : ℕ} {load : ℤ} (meet : IsMeeting t u v x y load) (ne : x ≢ y) where
    abbrev top : ℕ
    top = (forest_of t).out u

    -- Either is the lower one.
    sides : {low high : ℕ} → ((low ≡ x) × (high ≡ y)) ⊎ ((low ≡ y) × (high ≡ x))
        → IsMeeting t u v low high load × (low ≢ high) × (rank x + rank y ≡ rank low + rank high)
    sides (inl e) = (rw (e.0, e.1) meet, rw (e.0, e.1) ne, rw (e.0, e.1))
    sides (inr e) = search (rules, apart_order)

    -- A turn: the lower one climbs, and what it was at is passed.
    pub turn_meets : (low high : ℕ) {x2 : ℕ} (load2 : ℤ) → ((low ≡ x) × (high ≡ y)) ⊎ ((low ≡ y) × (high ≡ x))
        → rank low ≤ rank high → x2 ≡ up low → (low < length t.up → x2 < length t.up)
        → load2 ≡ load +ℤ get_or t.base low (pos 0) → IsMeeting t u v x2 high load2
    turn_meets low high {x2} load2 either order x2_is x2_low load_is =
        let w = sides either in
        let inner = within_climbs _ _ _ w.0.first w.0.second w.1 order in
        let step = apart_step _ climb rises (forest_of t).weight _ _ w.0.first.0 _ _
        w.0.first.1 (w.0.first.3, w.0.first.4) w.1 order inner w.0.low_x in
        let sum : load2 +ℤ passing x2 high ≡ passing u v =
        omega (arith, ints, ap (λ k. passing k high) x2_is, load_is, w.0.sum, base_is _ inner) in
        let first : IsWithin t top x2 = rw x2_is (within_up _ _ w.0.first) in
        let small : unsigned_abs load2 ≤ 2 ^ 90 = omega (arith, ints, sum, passed_small x2 high, passed_small u v) in
        assumption (x2_low w.0.low_x)

    -- And they come nearer.
    pub turn_nearer : (low high : ℕ) {x2 : ℕ} → ((low ≡ x) × (high ≡ y)) ⊎ ((low ≡ y) × (high ≡ x))
        → rank low ≤ rank high → x2 ≡ up low
        → (rank top + rank top) - (rank x2 + rank high) < (rank top + rank top) - (rank x + rank y)
    turn_nearer low high either order x2_is =
        let w = sides either in
        let rise = rises low (within_climbs top low high w.0.first w.0.second w.1 order) in
        let below = within_rank top (up low) (within_up top low w.0.first) in
        omega (arith, ap rank x2_is, within_rank top high w.0.second)

-- Where they have met, the load is found.
pub met_load : {t : ForestTables} {u v x y : ℕ} {sum : ℤ} → IsMeeting t u v x y sum → x ≡ y
    → sum ≡ weight_between (forest_of t) u v
met_load {t} meet e = search (rules, apart_met)

-- What a shift does to the tables.

-- A shift after another.
change_sum : (l : Label) (d : ℤ) {e : ℤ} (s : ℤ) → e ≡ d +ℤ s
    → weight_change l e ≡ weight_change l d +ℤ weight_change l s
change_sum l d s e_is = grind (arith, ints)

change_low : (l : Label) (s : ℤ) → pos 0 ≤ℤ s → pos (unsigned_abs (weight_change l s)) ≤ℤ s
change_low l s h = grind (arith, ints)

-- The forest sees the shift.
pub seen_shift : (t : ForestTables) (s : ℤ) {d : ℤ} → d ≡ t.delta +ℤ s → forest_of (record t { delta = d })
    ≡ shifted (forest_of t) s
seen_shift t s {d} e i =
    let weight : (b : ℕ) → (forest_of (record t { delta = d })).weight b ≡ (forest_of t).weight b +ℤ weight_change
    (label_at t.label b) s = λ b. omega (arith, ints, change_sum (label_at t.label b) t.delta s e) in
    record (forest_of t) { weight = λ b. weight b i }

-- Where no tree stands a shift changes nothing.
pub seen_still : {g : WeightedGraph} {t : ForestTables} (s : ℤ) → IsValidFor g t → t.root ≡ None
    → forest_of t ≡ shifted (forest_of t) s
seen_still {t} s valid none i = record (forest_of t) { weight = λ b. weight b i }
  where
    weight : (b : ℕ) → (forest_of t).weight b ≡ (forest_of t).weight b +ℤ weight_change (label_at t.label b) s
    weight b = search rules

module _ {t : ForestTables} {hid : HiddenTables} (tied : AreTied t hid) {g : WeightedGraph} (is : IsGraph g)
    (valid : IsValidFor g t) (r : ℕ) (root : t.root ≡ Some r) (s d : ℤ) (d_is : d ≡ t.delta +ℤ s) (high : pos 0 ≤ℤ s)
    (small : (b : ℕ) → unsigned_abs ((shifted (forest_of t) s).weight b) ≤ 2 ^ 62) where
  valid_root : IsValid (darts_of g) (forest_of t) (Some r)
  valid_root = rw root at valid.valid

  sum_is : dual_sum_of (forest_of (record t { delta = d })) ≡ dual_sum_of (forest_of t) +ℤ s
  sum_is = ap dual_sum_of (seen_shift t s d_is) ∙ sum_rises (are_darts is) valid_root (valid_root.tree r refl) s

  added_is : (v : ℕ) → added t.hand t.top hid.off t.label d v ≡ added t.hand t.top hid.off t.label t.delta v +ℤ
      weight_change (label_at t.label (out_of t.hand t.top v)) s
  added_is v = omega (arith, ints, change_sum (label_at t.label (out_of t.hand t.top v)) t.delta s d_is)

  -- The tie after a shift.
  pub tied_shift : AreTied (record t { delta = d }) hid
  tied_shift = record {
    sizes = sizes_kept tied.sizes refl refl refl refl (omega arith);
    nest = tied.nest;
    numbers = record {
      potentials = potentials;
      small = λ b. subst (λ (f : Forest). unsigned_abs (f.weight b) ≤ 2 ^ 62) (sym (seen_shift t s d_is)) (small b);
      start = tied.numbers.start;
      small_start = tied.numbers.small_start;
      moved = λ v lv. (let low = change_low (label_at t.label (out_of t.hand t.top v)) s high in
          omega (arith, ints, sum_is, added_is v, tied.numbers.moved v lv));
      risen = search (rules, sum_is);
      still = λ none. absurd (cc (sym root ∙ none));
    };
    trail = tied.trail;
    pool = tied.pool;
  }
    where
      potentials : (v : ℕ) → v < length t.hand → potential (forest_of (record t { delta = d })) v
          ≡ told hid.q t.hand t.top hid.off t.label d v
      potentials v lv =
          let h : potential (shifted (forest_of t) s) v ≡ potential (forest_of t) v +ℤ weight_change (label_at t.label
          (out_of t.hand t.top v)) s = potential_shifted valid.valid.outermost s v (rw valid.vertices at lv) in
          let seen = ap (λ (f : Forest). potential f v) (seen_shift t s d_is) in
          omega (arith, ints, h, tied.numbers.potentials v lv, added_is v)

-- The forest is valid after a shift whose end is feasible.
pub valid_shift : {t : ForestTables} (u : ForestTables) {g : WeightedGraph} (s : ℤ) → IsGraph g → IsValidFor g t
    → IsFeasible (darts_of g) (shifted (forest_of t) s) → forest_of u ≡ shifted (forest_of t) s → u.hand ≡ t.hand
    → u.root ≡ t.root → fixed_of u ≡ fixed_of t → IsValidFor g u
valid_shift u s is valid feasible seen hand root fixed = valid_as u valid fixed (ap length hand)
    (rw (seen, root) (shift_valid (are_darts is) valid.valid s feasible))

-- The forest is valid after a blossom has become the root.
pub valid_rooted : {t : ForestTables} (u : ForestTables) {g : WeightedGraph} → IsGraph g → IsValidFor g t → (v : ℕ)
    → v < length t.hand → t.root ≡ None → (forest_of t).mate ((forest_of t).out v) ≡ None → forest_of u
    ≡ rooted (forest_of t) ((forest_of t).out v) → u.hand ≡ t.hand → u.root ≡ Some ((forest_of t).out v) → fixed_of u
    ≡ fixed_of t → IsValidFor g u
valid_rooted {t} u is valid v low none free seen hand root fixed = valid_as u valid fixed (ap length hand)
    (rw (seen, root) (rooted_valid (are_darts is) (rw none at valid.valid) _ (v, rw valid.vertices at low, refl) free))
