-- Two blossoms are matched with each other: the round goes on.
use Rattle.std.proofs.Common.{rules, ◌≡◌, ◌≢◌, ℕ, zero, suc, ◌+◌, ◌-◌, ◌*◌, ◌/◌, ◌%◌, ◌<◌, ◌≤◌, Bool, true, false, cond}
use Rattle.std.proofs.Common.{◌&&◌, List, length, get_or, Option, Some, None, ◌⊎◌, refl, sym, ◌∙◌, ap, inl, inr, arith}
use Rattle.std.proofs.Common.{length-set, get_or-set_same, get_or-set_other}
use Rattle.std.proofs.lemmas.Bool.{cases_eq, cases_lt, cases_Bool, eq-eqb, ne_eqb, lt-ltb, false_from_ne_true, le-ltb}
use Rattle.def_forest.specs.Forests.{bool_number, splits, walk, ring_sum}
use Rattle.def_forest.specs.{Tables.ForestTables, Tables.forest_of, Tables.up_at, Needs.IsHeld}
use Rattle.forest_laws.proofs.{Walks.walk_front, Bounds.are_darts, Bounds.twin_odd, Walks.walk_fixed}
use Rattle.forest_laws.proofs.Grows.{tight_twin, option_cases, some_is}
use Rattle.qm_forest.specs.Rounds.{IsSoundFor, IsEntry, IsLaminar, IsPairing, IsRound, HasRoom, entered, far_at}
use Rattle.qm_forest.specs.{Rounds.leaving, Rounds.near_at, Rounds.waiting, Rounds.waits_but, Rounds.waits_for}
use Rattle.qm_forest.specs.{Rounds.within, declared.rounds.Round.Round}
use Rattle.qm_forest.proofs.Withins.{alone, another, circle, climb_law, in_where, inner_part, part, parts, rank_walk}
use Rattle.qm_forest.proofs.Withins.{ring_around, ring_pairing, rising}
use Rattle.{std.proofs.Math.ListN.set, def_matching.specs.Matching.WeightedGraph, def_forest.specs.Darts.other_dart}
use Rattle.{qm_forest.proofs.Withins.ring_front, qm_forest.proofs.Enclosed.climbs_place}
use Rattle.{qm_forest.proofs.Enclosed.comes_by, def_math.specs.Counts.count_below}
use Rattle.{sum_laws.proofs.Sums.count_below_same, forest_laws.specs.Walks.listed}

-- A term of a count.
pub term_low : (f : ℕ → ℕ) (n k : ℕ) → k < n → f k ≤ count_below f n
term_low f zero k l = absurd (omega arith)
term_low f (suc n) k l = grind (arith, term_low f n k)

-- Two counts that differ at one place alone.
pub count_changed : (f g : ℕ → ℕ) (n x : ℕ) → x < n → ((k : ℕ) → k < n → k ≢ x → g k ≡ f k)
    → count_below g n + f x ≡ count_below f n + g x
count_changed f g zero x l same = absurd (omega arith)
count_changed f g (suc n) x l same =
    let more = λ (lx : x < n). count_changed f g n x lx (λ k lk. same k (omega arith)) in
    search (rules, count_below_same)

pub count_more : (f g : ℕ → ℕ) (n x : ℕ) → x < n → f x ≡ 0 → ((k : ℕ) → k < n → k ≢ x → g k ≡ f k)
    → count_below g n ≡ count_below f n + g x
count_more f g n x l none same = omega (arith, count_changed f g n x l same)

-- One set more waits.
entered_more : (t : ForestTables) (left : List (Option ℕ)) (x u b : ℕ) → x < length left
    → (length t.hand ≤ x → get_or left x None ≡ None) → (x < length t.hand → waits_but t b x u ≡ 0)
    → waiting t (entered (length t.hand) left x u) b ≡ waiting t left b + waits_but t b x u
entered_more t left x u b low free zero' = elim (cases_lt x (length t.hand)) [
  | inl l ↦ rw (lt-ltb x (length t.hand) l) (omega (arith, zero' l))
  | inr h ↦ rw (le-ltb x (length t.hand) h, length-set left x (Some u))
      (count_more _ _ _ x low (ap (waits_for t b x) (free h)) (λ c lc ne. ap (waits_for t b c)
      (get_or-set_other left x c (Some u) None ne)) ∙ ap (λ (o : Option ℕ). waiting t left b + waits_for t b x o)
      (get_or-set_same left x (Some u) None low))
]

pub entered_size : (n : ℕ) (left : List (Option ℕ)) (x u : ℕ) → length (entered n left x u) ≡ length left
entered_size n left x u = grind (arith, length-set left x (Some u))

-- Each entry is the new one, or was there.
pub entry_cases : (n : ℕ) (left : List (Option ℕ)) (x u c : ℕ) → x < length left
    → ((n ≤ x) × (c ≡ x) × (get_or (entered n left x u) c None ≡ Some u))
    ⊎ (get_or (entered n left x u) c None ≡ get_or left c None)
entry_cases n left x u c low = grind (arith, get_or-set_same left x (Some u) None low, get_or-set_other)

-- An edge's ends are those of its dart, in one order or the other.
sides_of : (near : ℕ → ℕ) (holds : ℕ → Bool) (d : ℕ) → splits holds (near (2 * (d / 2))) (near (2 * (d / 2) + 1))
    ≡ splits holds (near d) (near (other_dart d))
sides_of near holds d = grind arith

module _ {t : ForestTables} (known : IsLaminar t) {g : WeightedGraph} (valid : IsSoundFor g t) (marks : List Bool)
    (left : List (Option ℕ)) (x y d : ℕ) (rest due : ℕ → ℕ) (size_marks : length t.near ≡ 2 * length marks)
    (size_left : length left ≡ length t.up) (round : IsRound t marks left
    (λ b. (bool_number (within t b x) + bool_number (within t b y)) + rest b) due) (pairing : IsPairing t x y d) where
  abbrev n : ℕ
  n = length t.hand

  abbrev e : ℕ
  e = d / 2

  abbrev u : ℕ
  u = near_at t d

  abbrev v : ℕ
  v = far_at t d

  e_low : e < length marks
  e_low = omega arith

  -- The edge was not chosen.
  fresh : get_or marks e false ≡ false
  fresh = false_from_ne_true _ (λ on. (
      let own = alone known u u pairing.near_low pairing.near_low ∙ eq-eqb u u refl in
      let other = alone known u v pairing.near_low pairing.far_low ∙ ne_eqb u v pairing.apart in
      let at_u : splits ((forest_of t).holds u) u v ≡ true = cc in
      let one : bool_number (get_or marks e false && splits ((forest_of t).holds u) (near_at t (2 * e))
      (near_at t (2 * e + 1))) ≡ 1 = cc (sides_of (near_at t) ((forest_of t).holds u) d) in
      let some : bool_number (get_or marks e false && splits ((forest_of t).holds u) (near_at t (2 * e))
      (near_at t (2 * e + 1))) ≤ leaving t marks u = term_low _ _ e e_low in
      omega (arith, ap bool_number pairing.near_held, round.each u (omega arith), round.once u pairing.near_low)))

  -- Neither blossom waited.
  free_of : (c : ℕ) → c < length t.up → (n ≤ c → get_or t.parts c 0 ≢ 0)
      → ((b : ℕ) → bool_number (within t b c) ≤ bool_number (within t b x) + bool_number (within t b y)) → n ≤ c
      → get_or left c None ≡ None
  free_of c low live covered high = elim (option_cases _) [
    | inl none ↦ none
    | inr s ↦ (let other = another known valid c s.0 high low (live high) in
        let entry = round.entry c s.0 s.1 in
        let lone = alone known other.0 s.0 other.1 entry.low ∙ ne_eqb other.0 s.0 other.2 in
        let waits : waits_for t other.0 c (get_or left c None) ≡ 1 = cc in
        let some : waits_for t other.0 c (get_or left c None) ≤ waiting t left other.0 =
        term_low (λ k. waits_for t other.0 k (get_or left k None)) _ c (rw size_left low) in
        let in_c : bool_number (within t other.0 c) ≡ 1 = ap bool_number other.3 in
        let low_z : other.0 < length t.up = omega arith in
        absurd (omega (arith, covered other.0, round.each other.0 low_z, round.once other.0 other.1)))
  ]

  zero_at : (c w b : ℕ) → (forest_of t).holds c w ≡ true → c < n → waits_but t b c w ≡ 0
  zero_at c w b held low = elim (cases_Bool (within t b c)) [
    | inr off ↦ ap (λ (s : Bool). cond s (cond ((forest_of t).holds b w) 0 1) 0) off
    | inl on ↦ cc (known.own b c low on)
  ]

  abbrev first_left : List (Option ℕ)
  first_left = entered n left x u

  waiting_now : (b : ℕ) → waiting t (entered n first_left y v) b ≡ (waiting t left b + waits_but t b x u) + waits_but
      t b y v
  waiting_now b =
      let first = entered_more t left x u b (rw size_left pairing.low_x)
      (free_of x pairing.low_x pairing.live_x (λ z. omega arith)) (zero_at x u b pairing.near_held) in
      let second = entered_more t first_left y v b (rw (entered_size n left x u ∙ size_left) pairing.low_y) (λ high.
      elim (entry_cases n left x u y (rw size_left pairing.low_x)) [
        | inl w ↦ absurd (pairing.other (sym w.1))
        | inr same ↦ same ∙ free_of y pairing.low_y pairing.live_y (λ z. omega arith) high
      ]) (zero_at y v b pairing.far_held) in
      cc

  leaving_now : (b : ℕ) → leaving t (set marks e true) b
      ≡ leaving t marks b + bool_number (splits ((forest_of t).holds b) u v)
  leaving_now b =
      let at = λ (xs : List Bool) (k : ℕ). bool_number (get_or xs k false && splits ((forest_of t).holds b)
      (near_at t (2 * k)) (near_at t (2 * k + 1))) in
      let other = λ (k : ℕ) (ne : k ≢ e). get_or-set_other marks e k true false ne in
      let more = count_more (at marks) (at (set marks e true)) _ e e_low (rw fresh) (λ k lk ne. rw (other k ne)) in
      let side = sides_of (near_at t) ((forest_of t).holds b) d in
      cc (length-set marks e true, get_or-set_same marks e true false e_low)

  entry_now : (c w : ℕ) → get_or (entered n first_left y v) c None ≡ Some w → IsEntry t c w
  entry_now c w is =
      let made : (z s : ℕ) → (n ≤ z) → c ≡ z → (n ≤ z → get_or t.parts z 0 ≢ 0) → s < n
      → (forest_of t).holds z s ≡ true → s ≡ w → IsEntry t c w = search rules in
      elim (entry_cases n first_left y v c (rw (entered_size n left x u ∙ size_left) pairing.low_y)) [
        | inl s ↦ made y v s.0 s.1 pairing.live_y pairing.far_low pairing.far_held (some_is v w (sym s.2 ∙ is))
        | inr same ↦ elim (entry_cases n left x u c (rw size_left pairing.low_x)) [
          | inl s ↦ made x u s.0 s.1 pairing.live_x pairing.near_low pairing.near_held
              (some_is u w (sym s.2 ∙ (sym same ∙ is)))
          | inr was ↦ round.entry c w (sym was ∙ (sym same ∙ is))
        ]
      ]

  pub paired_round : IsRound t (set marks (d / 2) true)
      (entered (length t.hand) (entered (length t.hand) left x (near_at t d)) y (far_at t d)) rest due
  paired_round = record {
    each = λ b l. (omega (arith, pairing.law b l, round.each b l, leaving_now b, waiting_now b));
    entry = entry_now;
    once = round.once;
    tight = λ h sound k on. elim (cases_eq k e) [
      | inl at ↦ elim (cases_eq (d % 2) 0) [
        | inl z ↦ (let s : d ≡ 2 * k = omega (arith, z, at) in rw s at (pairing.tight h sound))
        | inr nz ↦ (let s : other_dart d ≡ 2 * k = twin_odd d nz ∙ omega (arith, nz, at) in
            rw s at (tight_twin (are_darts sound.small.lawful) (pairing.tight h sound)))
      ]
      | inr ne ↦ round.tight h sound k (sym (get_or-set_other marks e k true false ne) ∙ on)
    ];
  }

-- A ring is matched in pairs, but for one part; and the round goes on to the set around it.

-- The rest may be told otherwise.
pub round_rest : {t : ForestTables} {marks : List Bool} {left : List (Option ℕ)} {rest : ℕ → ℕ} (rest2 : ℕ → ℕ)
    {due : ℕ → ℕ} → ((b : ℕ) → b < length t.up → rest b ≡ rest2 b) → IsRound t marks left rest due
    → IsRound t marks left rest2 due
round_rest rest2 same round = grind (arith, round.each, same)

module _ {t : ForestTables} {r : Round} (room : HasRoom t r) {p : ℕ} (inner : up_at t.up p ≢ p) where
  open room use {laminar, sound}

  abbrev after : ℕ → ℕ
  after k = get_or t.after k 0

  abbrev q : ℕ
  q = up_at t.up p

  abbrev many : ℕ
  many = get_or t.parts q 0

  abbrev inside : ℕ → Bool
  inside = listed (λ k. get_or t.after k 0) (get_or t.head (up_at t.up p) 0) (get_or t.parts (up_at t.up p) 0)

  abbrev at : ℕ → ℕ
  at k = walk after (after p) k

  at_in : (k : ℕ) → inside (at k) ≡ true
  at_in k = rw (walk_front after p k) at ((circle laminar sound.1 inner).marked (suc k))

  abbrev sum_from : (x m b : ℕ) → ℕ
  sum_from x m b = ring_sum after (λ r. bool_number (within t b r)) x m

  -- Before the first pair.
  pub ring_begun : (rest : ℕ → ℕ) {due : ℕ → ℕ} {x : ℕ} (k : ℕ) → x ≡ after p → k ≡ 0
      → IsRound t r.marks.items r.left_out.items (λ b. sum_from (after p) (many - 1) b + rest b) due
      → IsRound t r.marks.items r.left_out.items (λ b. sum_from x (many - 1 - 2 * k) b + rest b) due
  ring_begun rest {x} k x_is k_is round = search (rules, round_rest)

  -- Each part and the next are a pair.
  pub turn_pairing : (k : ℕ) {x y d : ℕ} → x ≡ at (2 * k) → y ≡ after x → d ≡ get_or t.joint x 0 → IsPairing t x y d
  turn_pairing k {x} {y} x_is y_is d_is =
      rw (d_is, y_is, x_is) (search (rules, ring_pairing, inner_part laminar sound.1 inner, at_in))

  -- A part has fewer vertices than the set.
  part_below : (x : ℕ) → inside x ≡ true → get_or t.rank x 0 < get_or t.rank q 0
  part_below x on = rw (part laminar sound.1 inner x on).0
      at (laminar.rises x (inner_part laminar sound.1 inner x on))

  -- The sets that wait after it are parts, or waited before.
  pub turn_entries : {left : List (Option ℕ)} (k : ℕ) {x y : ℕ} (d c v : ℕ) → x ≡ at (2 * k) → y ≡ after x
      → left ≡ entered (length t.hand) (entered (length t.hand) r.left_out.items x (near_at t d)) y (far_at t d)
      → IsPairing t x y d → get_or left c None ≡ Some v
      → (get_or r.left_out.items c None ≡ Some v) ⊎ (get_or t.rank c 0 < get_or t.rank (up_at t.up p) 0)
  turn_entries k {x} {y} d c v x_is y_is is pairing e =
      let below : (z j : ℕ) → z ≡ at j → c ≡ z → get_or t.rank c 0 < get_or t.rank (up_at t.up p) 0 =
      λ z j z_is c_is. rw (c_is ∙ z_is) (part_below (at j) (at_in j)) in
      elim (entry_cases (length t.hand) (entered (length t.hand) r.left_out.items x (near_at t d)) y (far_at t d) c
      (rw (entered_size (length t.hand) r.left_out.items x (near_at t d) ∙ room.left_out) pairing.low_y)) [
        | inl w ↦ inr (below y (suc (2 * k)) (y_is ∙ ap after x_is) w.1)
        | inr same ↦ elim (entry_cases (length t.hand) r.left_out.items x (near_at t d) c
            (rw room.left_out pairing.low_x)) [
              | inl w ↦ inr (below x (2 * k) x_is w.1)
              | inr was ↦ inl (sym was ∙ (sym same ∙ (ap (λ xs. get_or xs c None) (sym is) ∙ e)))
            ]
      ]

  -- One pair more.
  pub ring_turn : {marks : List Bool} {left : List (Option ℕ)} (rest : ℕ → ℕ) {due : ℕ → ℕ} (k j : ℕ) {x y d : ℕ}
      → x ≡ at (2 * k) → k < many / 2 → y ≡ after x → d ≡ get_or t.joint x 0 → j ≡ k + 1
      → marks ≡ set r.marks.items (d / 2) true
      → left ≡ entered (length t.hand) (entered (length t.hand) r.left_out.items x (near_at t d)) y (far_at t d)
      → IsRound t r.marks.items r.left_out.items (λ b. sum_from x (many - 1 - 2 * k) b + rest b) due
      → IsRound t marks left (λ b. sum_from (after y) (many - 1 - 2 * j) b + rest b) due
  ring_turn rest k j {x} {y} {d} x_is low y_is d_is j_is marks_is left_is round =
      let peeled : (b : ℕ) → sum_from x (many - 1 - 2 * k) b + rest b
      ≡ (bool_number (within t b x) + bool_number (within t b y)) + (sum_from (after y) (many - 1 - 2 * j) b + rest b) =
      λ b. (let two : many - 1 - 2 * k ≡ suc (suc (many - 1 - 2 * j)) =
      omega (arith, (ring_around laminar sound.1 inner).odd, low, j_is) in
      let front = ring_front after (λ r. bool_number (within t b r)) in
      rw (y_is, two) (omega (arith, front x (suc (many - 1 - 2 * j)), front (after x) (many - 1 - 2 * j)))) in
      rw (marks_is, left_is) (search (rules, paired_round, round_rest, turn_pairing))

  -- All pairs.
  pub ring_ended : {marks : List Bool} {left : List (Option ℕ)} (rest : ℕ → ℕ) {due : ℕ → ℕ} (k x : ℕ) → k ≡ many / 2
      → IsRound t marks left (λ b. sum_from x (many - 1 - 2 * k) b + rest b) due → IsRound t marks left rest due
  ring_ended rest k x k_is round = search (rules, round_rest)

  -- From a part to its set.
  pub ring_climb : (rest : ℕ → ℕ) {due : ℕ → ℕ} (v : ℕ) {c : ℕ} (j : ℕ) → within t v p ≡ true
      → walk (up_at t.up) q j ≡ c → get_or t.rank c 0 ≤ length t.hand → get_or t.rank q 0 ≤ length t.hand
      → IsRound t r.marks.items r.left_out.items (λ b. cond (within t b p) 0 (waits_but t b c v) + rest b) due
      → IsRound t r.marks.items r.left_out.items (λ b. sum_from (after p) (many - 1) b
      + (cond (within t b q) 0 (waits_but t b c v) + rest b)) due
  ring_climb rest v {c} j held climbs' low_c low_q round =
      let low : (x : ℕ) → inside x ≡ true → get_or t.rank x 0 ≤ length t.hand =
      λ x on. omega (arith, part_below x on, low_q) in
      let law = climb_law (rising laminar) q v (circle laminar sound.1 inner) (part laminar sound.1 inner)
      (parts laminar sound.1 inner) low low_q low_c held j climbs' in
      round_rest _ (λ b l. omega (arith, law b)) round

-- Going up from a vertex, at each step.
module _ {t : ForestTables} (known : IsLaminar t) {c v : ℕ} (is : IsHeld t c v) where
  pub top_rank : get_or t.rank c 0 ≤ length t.hand
  top_rank = known.passed c v is.vertex is.held

  pub climb_begins : {marks : List Bool} {left : List (Option ℕ)} (rest : ℕ → ℕ) {due : ℕ → ℕ}
      → IsRound t marks left (λ b. waits_but t b c v + rest b) due
      → IsRound t marks left (λ b. cond (within t b v) 0 (waits_but t b c v) + rest b) due
  climb_begins rest round = search rules

  module _ {p : ℕ} (above : (j : ℕ) × (walk (up_at t.up) p j ≡ c)) (below : p ≢ c) where
    pub climbs_on : up_at t.up p ≢ p
    climbs_on e = below (sym (walk_fixed (up_at t.up) above.0 e) ∙ above.1)

    pub above_more : (j : ℕ) × (walk (up_at t.up) (up_at t.up p) j ≡ c)
    above_more = let w = comes_by (up_at t.up) p above.0 above.1 below in
        (w.3, sym (walk_front (up_at t.up) p w.3) ∙ (ap (up_at t.up) w.4 ∙ w.1))

    pub next_rank : get_or t.rank (up_at t.up p) 0 ≤ get_or t.rank c 0
    next_rank = rw above_more.1 at (rank_walk (rising known) (up_at t.up p) above_more.0)

    pub rises_here : get_or t.rank p 0 < get_or t.rank (up_at t.up p) 0
    rises_here = known.rises p climbs_on

    pub held_more : within t v p ≡ true → within t v (up_at t.up p) ≡ true
    held_more on = (let w : (i : ℕ) × (walk (up_at t.up) v i ≡ p) = climbs_place (up_at t.up) (length t.hand) p v on in
        in_where (rising known) v (suc w.0) (omega (arith, next_rank, top_rank)) (ap (up_at t.up) w.1))
