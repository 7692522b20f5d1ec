-- Blossoms within each other: climbing from one, one comes past the other.
use Rattle.std.proofs.Common.{rules, ◌≡◌, ◌≢◌, ℕ, zero, suc, ◌+◌, ◌-◌, ◌<◌, ◌≤◌, Bool, true, false, not, cond, eqb, ◌⊎◌}
use Rattle.std.proofs.Common.{refl, sym, ◌∙◌, ap, inl, inr, arith, ◌*◌, length, get_or}
use Rattle.std.proofs.lemmas.Bool.{cases_eq, cases_lt, false_from_ne_true}
use Rattle.def_forest.specs.{Forests.bool_number, Forests.walk, Forests.ring_sum, Tables.climbs, Tables.ForestTables}
use Rattle.def_forest.specs.{Tables.forest_of, Tables.up_at, Tables.IsValidFor, Darts.AreDarts, Darts.darts_of}
use Rattle.def_forest.specs.{Darts.other_dart, Valid.IsJoint, Valid.IsRing}
use Rattle.forest_laws.proofs.Walks.{IsCircle, circle_from, listed_at, listed_closed, listed_place, walk_fixed}
use Rattle.forest_laws.proofs.{Walks.walk_front, Walks.walk_sum, Grows.true_false, Grows.far_low, Bounds.are_darts}
use Rattle.forest_laws.{specs.Walks.listed, proofs.Odds.part_used}
use Rattle.qm_forest.proofs.Enclosed.{climbs_place, comes_by, rank_few, rank_passed, climbs_here}
use Rattle.qm_forest.proofs.JoinedLists.{list_few, list_member}
use Rattle.def_matching.specs.Matching.{WeightedGraph, IsSmallGraph}
use Rattle.qm_forest.specs.Rounds.{IsSoundFor, IsLaminar, IsPairing, far_at, near_at, within}
use Rattle.qm_forest.specs.Ties.{AreTied, HiddenTables, IsInUse}

-- A sum along a ring: without its front, of nothing, and of one place alone.
pub ring_front : (next f : ℕ → ℕ) (from k : ℕ) → ring_sum next f from (suc k) ≡ f from + ring_sum next f (next from) k
ring_front next f from zero = omega arith
ring_front next f from (suc k) = omega (arith, ring_front next f from k, ap f (walk_front next from k))

pub ring_none : (next f : ℕ → ℕ) (from k : ℕ) → ((j : ℕ) → j < k → f (walk next from j) ≡ 0) → ring_sum next f from k
    ≡ 0
ring_none next f from zero none = refl
ring_none next f from (suc k) none = search (rules, ring_none next f from k (λ j l. none j (omega arith)))

pub ring_one : (next f : ℕ → ℕ) (from k j : ℕ) → j < k → f (walk next from j) ≡ 1
    → ((i : ℕ) → i < k → i ≢ j → f (walk next from i) ≡ 0) → ring_sum next f from k ≡ 1
ring_one next f from zero j l one others = absurd (omega arith)
ring_one next f from (suc k) j l one others =
    let more = λ (lj : j < k). ring_one next f from k j lj one (λ i li ne. others i (omega arith) ne) in
    search (rules, ring_none)

-- From a part p to its set q: what is in p is in q and in no other part, what is not in q is in none; and the rest is q
-- itself, in which v is, or is in one other part, and v is not in it.
climb_cases : (p q c v : Bool) (others : ℕ) → (p ≡ true → (q ≡ true) × (others ≡ 0)) → (q ≡ false → others ≡ 0)
    → (p ≡ false → q ≡ true → ((others ≡ 0) × (v ≡ true)) ⊎ ((others ≡ 1) × (c ≡ true) × (v ≡ false)))
    → cond p 0 (cond c (cond v 0 1) 0) ≡ others + cond q 0 (cond c (cond v 0 1) 0)
climb_cases p q c v others in_p off between = grind arith

-- The way out rises in rank.
pub record IsRising (n : ℕ) (up rank : ℕ → ℕ) : Type 0 where
  pub rises : (x : ℕ) → up x ≢ x → rank x < rank (up x)

module _ {n : ℕ} {up rank : ℕ → ℕ} (rising : IsRising n up rank) where
  open rising use {rises}

  abbrev pub in_it : ℕ → ℕ → Bool
  in_it b c = climbs up n c b

  pub rank_walk : (x k : ℕ) → rank x ≤ rank (walk up x k)
  rank_walk x zero = omega arith
  rank_walk x (suc k) = grind (arith, rank_walk x k, rises (walk up x k))

  -- What one comes to one comes past, if there are steps enough.
  reach : (k : ℕ) {c : ℕ} (from j : ℕ) → walk up from j ≡ c → rank c ≤ rank from + k → climbs up k c from ≡ true
  reach k {c} from zero e low = rw (← e) (climbs_here up k from)
  reach zero from (suc i) e low = grind (arith, walk_front, rises from, rank_walk, walk_fixed)
  reach (suc k) {c} from (suc i) e low =
      let next = λ (more : rank c ≤ rank (up from) + k). reach k (up from) i (sym (walk_front up from i) ∙ e) more in
      grind (arith, rises from, walk_fixed)

  pub in_where : (b : ℕ) {c : ℕ} (j : ℕ) → rank c ≤ n → walk up b j ≡ c → in_it b c ≡ true
  in_where b j low e = reach n b j e (omega arith)

  pub where_in : (b c : ℕ) → in_it b c ≡ true → (j : ℕ) × (walk up b j ≡ c)
  where_in b c on = climbs_place up n c b on

  -- What lies in a blossom lies in what that lies in.
  pub through : (w b c : ℕ) → rank c ≤ n → in_it w b ≡ true → in_it b c ≡ true → in_it w c ≡ true
  through w b c low o on =
      let first = where_in w b o in
      let second = where_in b c on in
      in_where w _ low (walk_sum up w first.0 _ ∙ (ap (λ z. walk up z second.0) first.1 ∙ second.1))

  -- Of two blossoms on one way one lies within the other.
  pub in_line : (w : ℕ) {a b : ℕ} (i j : ℕ) → walk up w i ≡ a → walk up w j ≡ b → ((m : ℕ) × (walk up a m ≡ b))
      ⊎ ((m : ℕ) × (walk up b m ≡ a))
  in_line w {a} {b} i j ea eb = elim (cases_lt i j) [
    | inl l ↦ inl (j - i, ap (λ x. walk up x (j - i)) (sym ea) ∙ (sym (walk_sum up w i (j - i)) ∙ (search rules)))
    | inr h ↦ inr (i - j, ap (λ x. walk up x (i - j)) (sym eb) ∙ (sym (walk_sum up w j (i - j)) ∙ (search rules)))
  ]

  -- Two parts of a set are not within each other.
  pub parts_apart : (x : ℕ) {y q : ℕ} (m : ℕ) → up x ≡ q → up y ≡ q → y ≢ q → x ≢ y → walk up x m ≡ y → ⊥
  parts_apart x h1 h2 h3 h4 h5 h6 = search (rules, rank_walk, walk_front)

  -- Two parts have nothing in common.
  pub none_in_both : (w x y : ℕ) {q : ℕ} → up x ≡ q → up y ≡ q → x ≢ q → y ≢ q → x ≢ y → in_it w x ≡ true → in_it w y
      ≡ true → ⊥
  none_in_both w x y ex ey nx ny ne hx hy = search (rules, where_in, in_line, parts_apart)

  -- Where two parts of one set are matched with each other, the edge leaves just the blossoms of one of them that have
  -- its end there, and all other blossoms of the two wait.
  module _ (x y : ℕ) {q : ℕ} (u v : ℕ) (ex : up x ≡ q) (ey : up y ≡ q) (nx : x ≢ q) (ny : y ≢ q) (ne : x ≢ y)
      (hu : in_it u x ≡ true) (hv : in_it v y ≡ true) (low_x : rank x ≤ n) (low_y : rank y ≤ n) where
    -- A blossom around one end that is not within its part is around the other end.
    around_other : (u v x y b : ℕ) → up x ≡ q → up y ≡ q → rank x ≤ n → in_it u x ≡ true → in_it v y ≡ true
        → in_it b x ≡ false → rank b ≤ n → in_it u b ≡ true → in_it v b ≡ true
    around_other u v x y b ex ey low_x hu hv off low on = search (rules, where_in, in_line, in_where, beyond)
      where
        beyond : (j : ℕ) × (walk up v j ≡ y) → (m : ℕ) → walk up x m ≡ b → in_it v b ≡ true
        beyond wy zero e = absurd (true_false (in_where b 0 low_x (sym e)) off)
        beyond wy (suc m) e = in_where v _ low (walk_sum up v wy.0 (suc m) ∙ (search (rules, walk_front)))

    pub pair_law : (b : ℕ) → (in_it u b ≡ true → rank b ≤ n) → (in_it v b ≡ true → rank b ≤ n)
        → bool_number (cond (in_it u b) (not (in_it v b)) (in_it v b)) + (cond (in_it b x) (cond (in_it u b) 0 1) 0
        + cond (in_it b y) (cond (in_it v b) 0 1) 0) ≡ bool_number (in_it b x) + bool_number (in_it b y)
    pair_law b low_u low_v =
        let first = around_other u v x y b ex ey low_x hu hv in let second = around_other v u y x b ey ex low_y hv hu in
        let at_u = none_in_both u x y ex ey nx ny ne in let at_v = none_in_both v x y ex ey nx ny ne in
        grind (arith, none_in_both b x y ex ey nx ny ne, through v b x low_x, through u b y low_y)

  -- From a part to its set: what waited there waits in the parts after it, or around the set.
  module _ {p : ℕ} (q v : ℕ) {c : ℕ} {many : ℕ} {after : ℕ → ℕ} {inside : ℕ → Bool}
      (circle : IsCircle after p many inside) (part : (x : ℕ) → inside x ≡ true → (up x ≡ q) × (x ≢ q))
      (parts : (x : ℕ) → up x ≡ q → x ≢ q → inside x ≡ true) (low : (x : ℕ) → inside x ≡ true → rank x ≤ n)
      (low_q : rank q ≤ n) (low_c : rank c ≤ n) (hv : in_it v p ≡ true) (j : ℕ) (hq : walk up q j ≡ c) where
    -- The parts after p, and how many of them hold a blossom.
    abbrev nth : ℕ → ℕ
    nth k = walk after (after p) k

    abbrev others : ℕ → ℕ
    others b = ring_sum after (λ r. bool_number (in_it b r)) (after p) (many - 1)

    p_part : (up p ≡ q) × (p ≢ q)
    p_part = part p (circle.marked 0)

    at_part : (k : ℕ) → (up (nth k) ≡ q) × (nth k ≢ q)
    at_part k = rw (walk_front after p k) at (part (walk after p (suc k)) (circle.marked (suc k)))

    in_set : (b r : ℕ) → up r ≡ q → in_it b r ≡ true → in_it b q ≡ true
    in_set b r er on = let w = where_in b r on in in_where b (suc w.0) low_q (ap up w.1 ∙ er)

    none_after : (b : ℕ) → ((k : ℕ) → k < many - 1 → in_it b (nth k) ≡ true → ⊥) → others b ≡ 0
    none_after b off = ring_none after (λ r. bool_number (in_it b r)) (after p) (many - 1)
        (λ k l. ap bool_number (false_from_ne_true (in_it b (nth k)) (off k l)))

    apart : (i k : ℕ) → i < many - 1 → k < many - 1 → i ≢ k → nth i ≢ nth k
    apart i k li lk ne same =
        let first = walk_front after p i in let second = walk_front after p k in
        grind (arith, circle.distinct (suc i) (suc k), circle.distinct (suc k) (suc i))

    -- What lies in a part after p lies in no other.
    one_after : (b : ℕ) {r : ℕ} → up r ≡ q → r ≢ q → in_it b r ≡ true → r ≢ p → (k : ℕ) → k < many → walk after p k ≡ r
        → others b ≡ 1
    one_after b er nr on np zero l e = absurd (np (sym e))
    one_after b {r} er nr on np (suc k) l e =
        let here : nth k ≡ r = sym (walk_front after p k) ∙ e in
        ring_one _ (λ x. bool_number (in_it b x)) _ _ k (omega (arith, l)) (ap (λ x. bool_number (in_it b x)) here ∙ ap
        bool_number on) (λ i li ni. ap bool_number (false_from_ne_true _ (λ o. none_in_both b _ r (at_part i).0 er
        (at_part i).1 nr (λ same. apart i k li (omega (arith, l)) ni (same ∙ sym here)) o on)))

    -- What is in the set and not in p, but is not the set, is in one part after it, and v is not in it.
    around : (b : ℕ) → (r : ℕ) × (up r ≡ q) × (r ≢ q) × (i : ℕ) × (walk up b i ≡ r) → in_it b p ≡ false
        → in_it b q ≡ true → (others b ≡ 1) × (in_it b c ≡ true) × (in_it v b ≡ false)
    around b w off on =
        let inside_r = parts w.0 w.1 w.2 in
        let in_r = in_where b w.3 (low w.0 inside_r) w.4 in
        let other_p : w.0 ≢ p = λ e. true_false (rw e at in_r) off in
        let k = circle.all w.0 inside_r in (
          one_after b w.1 w.2 in_r other_p k.0 k.1 k.2,
          through b q c low_c on (in_where q j low_c hq),
          false_from_ne_true (in_it v b) (λ o. none_in_both v w.0 p w.1 p_part.0 w.2 p_part.1 other_p
              (through v b w.0 (low w.0 inside_r) o in_r) hv),
        )

    pub climb_law : (b : ℕ) → cond (in_it b p) 0 (cond (in_it b c) (cond (in_it v b) 0 1) 0)
        ≡ others b + cond (in_it b q) 0 (cond (in_it b c) (cond (in_it v b) 0 1) 0)
    climb_law b = climb_cases (in_it b p) (in_it b q) (in_it b c) (in_it v b) (others b) (λ on. (
      in_set b p p_part.0 on,
      none_after b (λ k l. none_in_both b p (nth k) p_part.0 (at_part k).0 p_part.1 (at_part k).1
          (λ e. circle.distinct 0 (suc k) (omega arith) (omega (arith, l)) (e ∙ sym (walk_front after p k))) on),
    )) (search (rules, none_after, in_set, at_part)) (λ off on. elim (cases_eq b q) [
      | inl e ↦ search (rules, none_after, where_in, at_part, rank_walk, in_set)
      | inr ne ↦ inr (around b (comes_by up b (where_in b q on).0 (where_in b q on).1 ne) off on)
    ])

-- What tied tables say of how blossoms lie in each other, and the two parts that a joint joins.

pub laminar : {t : ForestTables} {hid : HiddenTables} → AreTied t hid → IsLaminar t
laminar {t} {hid} tied = record {
  vertices = tied.sizes.vertices;
  few = tied.sizes.few;
  rises = tied.nest.rises;
  low = λ x l used. list_few (tied.nest.members x l used);
  passed = λ b v l on. (omega (arith, rank_passed tied.nest v b l on, rank_few tied.nest v l));
  own = λ b x l on. (let w = climbs_place (up_at t.up) _ x b on in
      grind (arith, cases_eq b x, comes_by (up_at t.up) b w.0 w.1, tied.nest.around));
  two = λ x l used more. (let list = tied.nest.members x l used in
      let first : 0 < get_or t.rank x 0 = omega arith in
      let differ = list.distinct 0 1 (omega arith) more in
      (_, _, list.low 0 first, list.low 1 more, differ, list_member list 0 first, list_member list 1 more));
  some = λ x l used. (tied.nest.members x l used).some;
}

-- The way out of a blossom rises.
pub rising : {t : ForestTables} → IsLaminar t → IsRising (length t.hand) (up_at t.up) (λ z. get_or t.rank z 0)
rising known = record { rises = known.rises }

-- A valid forest is sound.
pub sound : {g : WeightedGraph} {t : ForestTables} → IsSmallGraph g → IsValidFor g t → IsSoundFor g t
sound small valid = assumption

module _ {t : ForestTables} (known : IsLaminar t) where
  -- A vertex holds itself alone.
  pub alone : (v w : ℕ) → v < length t.hand → w < length t.hand → (forest_of t).holds v w ≡ eqb v w
  alone v w lv lw = search (rules, climbs_here)

  module _ {g : WeightedGraph} (valid : IsSoundFor g t) where
    abbrev are : AreDarts (darts_of g)
    are = are_darts valid.small.lawful

    -- A set has another vertex than any one.
    pub another : (x w : ℕ) → length t.hand ≤ x → x < length t.up → get_or t.parts x 0 ≢ 0
        → (v : ℕ) × (v < length t.hand) × (v ≢ w) × ((forest_of t).holds x v ≡ true)
    another x w high low live =
        let ring = valid.valid.nested.rings x (rw valid.vertices at high) live in
        let head : IsInUse (length t.hand) t.parts (get_or t.head x 0) =
        grind (arith, part_used are valid.valid.nested ring 0, valid.vertices) in
        let some = known.some (get_or t.head x 0) (ring.below 0) head in
        let s = known.two x low (inr live) (omega (arith, some, ring.lower 0)) in
        elim (cases_eq s.0 w) [ inl e ↦ (s.1, s.3, (λ f. s.4 (e ∙ sym f)), s.6) | inr ne ↦ (s.0, s.2, ne, s.5) ]

    -- The parts of a set, from one of them on round their ring; that one and the next are joined.
    module _ {x : ℕ} (inner : up_at t.up x ≢ x) where
      abbrev q : ℕ
      q = up_at t.up x

      abbrev d : ℕ
      d = get_or t.joint x 0

      abbrev y : ℕ
      y = get_or t.after x 0

      abbrev many : ℕ
      many = get_or t.parts q 0

      abbrev inside : ℕ → Bool
      inside = listed (λ k. get_or t.after k 0) (get_or t.head q 0) many

      pub ring_around : IsRing (darts_of g) (forest_of t) q
      ring_around = let live = valid.valid.nested.live x inner in valid.valid.nested.rings q live.0 live.1

      pub part : (r : ℕ) → inside r ≡ true → (up_at t.up r ≡ q) × (r ≢ q)
      part r on =
          let w = listed_place _ _ many r on in (
            ap (up_at t.up) (sym w.2) ∙ ring_around.inside w.0,
            (λ e. absurd (omega (arith, ring_around.lower w.0, ap (λ z. get_or t.rank z 0) (w.2 ∙ e)))),
          )

      pub parts : (r : ℕ) → up_at t.up r ≡ q → r ≢ q → inside r ≡ true
      parts r e ne = let w = ring_around.all r e ne in
          rw w.2 at (listed_at (λ k. get_or t.after k 0) (get_or t.head q 0) many w.0 w.1)

      pub inner_part : (r : ℕ) → inside r ≡ true → up_at t.up r ≢ r
      inner_part r on e = (part r on).1 (sym e ∙ (part r on).0)

      pub circle : IsCircle (λ k. get_or t.after k 0) x many inside
      circle = circle_from _ _ many inside (record {
        some = omega (arith, ring_around.odd);
        closed = ring_around.closed;
        distinct = ring_around.distinct;
        marked = listed_closed _ many (omega (arith, ring_around.odd)) ring_around.closed;
        all = listed_place _ _ many;
      }) x (parts x refl (λ e. inner (sym e)))

      low_in : (r : ℕ) → inside r ≡ true → r < length t.up
      low_in r on = let w = listed_place _ _ many r on in rw w.2 at (ring_around.below w.0)

      next_part : (up_at t.up y ≡ q) × (y ≢ q)
      next_part = part y (circle.marked (suc zero))

      differ : x ≢ y
      differ = circle.distinct zero (suc zero) (omega arith) (omega (arith, ring_around.odd, ring_around.some))

      joint_is : IsJoint (darts_of g) (forest_of t) x
      joint_is = valid.valid.nested.joints x inner

      d_low : d < 2 * length g.edges
      d_low = joint_is.tight.low

      near_ok : (near_at t d < length t.hand) × (within t (near_at t d) x ≡ true)
      near_ok = let is = valid.ends d d_low in (rw (valid.vertices, is) (are.near_low d d_low), rw is joint_is.begins)

      far_ok : (far_at t d < length t.hand) × (within t (far_at t d) y ≡ true)
      far_ok = let is = valid.ends (other_dart d) (are.twin_low d d_low) in
          (rw (valid.vertices, is) (far_low (darts_of g) are d d_low), rw is joint_is.ends)

      used : (z v : ℕ) → v < length t.hand → within t v z ≡ true → length t.hand ≤ z → get_or t.parts z 0 ≢ 0
      used z v l on high none = search rules

      -- The two are a pair.
      pub ring_pairing : IsPairing t x y d
      ring_pairing = record {
        dart = rw valid.darts d_low;
        small = omega (arith, d_low, valid.small.edges);
        low_x = low_in x (circle.marked zero);
        low_y = low_in y (circle.marked (suc zero));
        other = differ;
        apart = λ e. none_in_both (rising known) _ x y
            refl next_part.0 (λ s. inner (sym s)) next_part.1 differ near_ok.1 (rw e far_ok.1);
        near_low = near_ok.0;
        far_low = far_ok.0;
        near_held = near_ok.1;
        far_held = far_ok.1;
        live_x = used x _ near_ok.0 near_ok.1;
        live_y = used y _ far_ok.0 far_ok.1;
        law = λ b l. pair_law (rising known) x y _ _ refl next_part.0 (λ s. inner (sym s)) next_part.1 differ near_ok.1
            far_ok.1 (known.passed x (near_at t d) near_ok.0 near_ok.1) (known.passed y (far_at t d) far_ok.0 far_ok.1)
            b (λ on. known.passed b (near_at t d) near_ok.0 on) (λ on. known.passed b (far_at t d) far_ok.0 on);
        tight = λ h valid'. (valid'.valid.nested.joints x inner).tight;
      }
