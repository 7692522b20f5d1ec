-- Each step keeps what reached states know.
use Rattle.std.proofs.lemmas.Grind.{common_steps}
use Rattle.std.proofs.Common.{rules, ◌≡◌, ◌⊎◌, ℕ, zero, suc, ◌<◌, Bool, true, false, not, ◌&&◌, List, Some, None, sym}
use Rattle.std.proofs.Common.{arith, ap, ◌∙◌, refl, inl, inr, eqb, [], ◌∷◌, map, subst}
use Rattle.std.proofs.lemmas.Bool.{eq-eqb, eqb-true, false≢true, cases_Bool, or_left, or_right}
use Rattle.std.proofs.lemmas.Bool.{and_from, and_parts, not_from_false}
use Rattle.def_cut.specs.Motion.{Terrain, State, end_of, straight, ridden, is_among, is_met, arrives_at}
use Rattle.def_cut.specs.Motion.{arrivals, goes_on, stop_of, or_else, step, begun, start}
use Rattle.def_cut.specs.{Cuts.IsCross, Cuts.HasCross, Trails.IsStraight, Trails.Trail}
use Rattle.cut_laws.proofs.Crosses.{low_a, at_a, at_b, low_b, one_of_four}
use Rattle.cut_laws.proofs.Folds.{twin_same}
use Rattle.motion_laws.proofs.Among.{AreApart, any_at, any_where, apart_filter, from_filter, in_filter}
use Rattle.motion_laws.proofs.Bits.{IsTerrain, IsReachedFrom, IsSoon, IsCrossedAt, crossed_at, IsStarted}
use Rattle.motion_laws.proofs.Bits.{IsFirst, IsShut, rotated, two_bits_of}
use Rattle.motion_laws.proofs.Shown.{next_from, next_to, next_apart}
use Rattle.{def_mesh.specs.HalfEdges.HalfEdges, motion_laws.proofs.Among.cases_Option}

-- Trails stay where more is covered.
pub trail_more : (m : HalfEdges) (begin cut more : ℕ → Bool) → ((d : ℕ) → cut d ≡ true → more d ≡ true) → (d k : ℕ)
    → Trail m begin cut d k → Trail m begin more d k
trail_more m begin cut more grown d zero t = t
trail_more m begin cut more grown d (suc k) t = search (rules, trail_more m begin cut more grown t.0 k t.1)

module _ (g : Terrain) (t : IsTerrain g) where
  module _ (stood : ℕ → Bool) (ds : List ℕ) (apart : AreApart ds) (low : (d : ℕ) → is_among d ds ≡ true
      → d < g.half.count) (left : (d : ℕ) → is_among d ds ≡ true → stood (g.half.from d) ≡ true) where
    -- Where nobody has stood, nobody who comes is met.
    pub unmet : (d : ℕ) → is_among d ds ≡ true → stood (end_of g d) ≡ false → is_met g ds d ≡ false
    unmet d m off = grind (arith, cases_Option (g.half.twin d), t.half.twin_ends d, left, low)

    pub arrives : (d v : ℕ) → is_among d ds ≡ true → end_of g d ≡ v → stood v ≡ false → arrives_at g ds v d ≡ true
    arrives d v m at off = and_from _ _ (eq-eqb _ _ at) (not_from_false _ (unmet d m (ap stood at ∙ off)))

    -- Who goes on, by two bits.
    pub two_bits : (d a b c : ℕ) → is_among d ds ≡ true → stood (end_of g d) ≡ false
        → IsCross g.half (g.half.next d) a b c → goes_on g (arrivals g ds (end_of g d)) d
        ≡ (not (is_among (g.half.prev a) ds) && not (is_among (g.half.prev b) ds))
    two_bits d a b c m off x =
        let here = arrives_at g ds (end_of g d) in
        let low_d = t.half.next_low d (low d m) in
        let end_a = ap g.half.from (t.half.next_prev a) ∙ at_a t.half _ a b c low_d x in
        let end_b = ap g.half.from (t.half.next_prev b) ∙ at_b t.half _ a b c low_d x in
        let of_four = one_of_four t.half (g.half.next d) a b c low_d x in
        two_bits_of g d (g.half.prev a) (g.half.prev b) (g.half.prev c) (search rules) (arrivals g ds (end_of g d))
        (apart_filter here ds apart) (search (rules, in_filter, arrives)) (λ y n. let f = from_filter here y ds n in
        grind (arith, of_four (g.half.next y), low y f.0, t.half.next_low, t.half.prev_next))
        ∙ search (rules, from_filter, in_filter, arrives, end_a, end_b)

  -- A rider that goes on leaves the vertex by the edge opposite to that by which it came.
  pub goes_straight : (d a b c : ℕ) → d < g.half.count → IsCross g.half (g.half.next d) a b c → IsStraight g.half d c
      × (straight g d ≡ Some c)
  goes_straight d a b c low x = ((g.half.prev c, over, sym (t.half.next_prev c)), search rules)
    where
      over : g.half.twin (g.half.next d) ≡ Some (g.half.prev c)
      over = search rules

  -- The next dart of a rider that goes on.
  pub record IsNext (stood : ℕ → Bool) (ds : List ℕ) (d e : ℕ) : Type 0 where
    pub low : e < g.half.count
    pub straight : IsStraight g.half d e
    pub at : g.half.from e ≡ end_of g d
    pub cross : HasCross g.half e
    pub fresh : stood (end_of g d) ≡ false

  pub is_next : (stood : ℕ → Bool) (ds : List ℕ) (d e : ℕ) → d < g.half.count → stop_of g stood ds d ≡ None
      → e ≡ or_else (straight g d) d → IsNext stood ds d e
  is_next stood ds d e low on is =
      let (a, b, c, x) = t.crossed (g.half.next d) (t.half.next_low d low) (search rules) (search rules) in
      search (rules, goes_straight)

  -- Straight on from different darts lead different darts.
  pub straight_same : (d e x : ℕ) → d < g.half.count → e < g.half.count → IsStraight g.half d x → IsStraight g.half e x
      → d ≡ e
  straight_same d e x ld le (a, ta, ia) (b, tb, ib) = search (rules, twin_same)

  module _ (begins : ℕ → Bool) (first s : State) (r : IsReachedFrom g begins first s) where
    abbrev now : List ℕ
    now = ridden s.riders

    abbrev Rides : ℕ → Type 0
    Rides d = is_among d (ridden s.riders) ≡ true

    abbrev next : State
    next = step g s

    -- Where a ridden dart ends somebody has stood afterwards: whoever is met was there before.
    pub stands : (d : ℕ) → is_among d (ridden s.riders) ≡ true → (step g s).stood (end_of g d) ≡ true
    stands d m =
        let any = any_at (arrives_at g now (end_of g d)) d now m in
        grind (arith, cases_Option (g.half.twin d), t.half.twin_ends d, r.left, r.low, any)

    pub next_is : (e : ℕ) → is_among e (ridden (step g s).riders) ≡ true → (d : ℕ)
        × (is_among d (ridden s.riders) ≡ true) × IsNext s.stood (ridden s.riders) d e
    next_is e m = let n = next_from g s.stood _ s.riders e m in (n.0, n.1, is_next _ _ _ e (r.low n.0 n.1) n.2 n.3)

    -- At a vertex where f arrives first and either the rider facing it comes too or nobody to its right, two opposite
    -- edges are covered or ridden next.
    crossing : (f a b c : ℕ) → Rides f → s.stood (end_of g f) ≡ false → g.boundary (end_of g f) ≡ false
        → g.singular (end_of g f) ≡ false → IsCross g.half (g.half.next f) a b c
        → Rides (g.half.prev b) ⊎ (is_among (g.half.prev a) now ≡ false) → IsCrossedAt g next (end_of g f)
    crossing f a b c m off inner regular x which =
        let low = t.half.next_low f (r.low f m) in
        let soon : IsSoon next c = grind (
          arith,
          cases_Bool (is_among (g.half.prev b) now),
          goes_straight f a b c (r.low f m) x,
          unmet s.stood now r.apart r.low r.left f m off,
          two_bits s.stood now r.apart r.low r.left f a b c m off x,
          next_to g s.stood now s.riders f m,
          x.third,
          t.half.twin_twin (g.half.prev b) c,
          t.half.prev_low,
          r.low,
        ) in
        crossed_at (low_a t.half _ a b c low x) (at_a t.half _ a b c low x) (rotated g.half t.half _ a b c low x)
        (search rules) soon

    decided : (f a b c : ℕ) → Rides f → s.stood (end_of g f) ≡ false → g.boundary (end_of g f) ≡ false
        → g.singular (end_of g f) ≡ false → IsCross g.half (g.half.next f) a b c → IsCrossedAt g next (end_of g f)
    decided f a b c m off inner regular x =
        let end_a : end_of g (g.half.prev a) ≡ end_of g f = search rules in
        let turned : IsCross g.half (g.half.next (g.half.prev a)) b c (g.half.next f) = grind arith in
        elim (cases_Bool (is_among (g.half.prev b) now)) [
          | inl y ↦ crossing f a b c m off inner regular x (inl y)
          | inr no_b ↦ elim (cases_Bool (is_among (g.half.prev a) now)) [
            | inr no_a ↦ crossing f a b c m off inner regular x (inr no_a)
            | inl n ↦ rw (← end_a) (crossing (g.half.prev a) b c (g.half.next f) n (rw end_a off) (rw end_a inner)
                (rw end_a regular) turned (inr no_b))
          ]
        ]

    grown : (d k : ℕ) → Trail g.half begins s.covered d k → Trail g.half begins next.covered d k
    grown = trail_more g.half begins s.covered next.covered (λ d c. or_left _ _ c)

    pub step_keeps : IsReachedFrom g begins first (step g s)
    step_keeps = record {
      apart = next_apart g s.stood now s.riders r.apart (λ d e m n on_d on_e same.
          let a = is_next s.stood now d _ (r.low d m) on_d refl in
          let b = is_next s.stood now e _ (r.low e n) on_e same in
          straight_same d e _ (r.low d m) (r.low e n) a.straight b.straight);
      low = λ e m. (next_is e m).2.low;
      left = λ e m. let n = next_is e m in ap next.stood n.2.at ∙ stands n.0 n.1;
      alike = search rules;
      ends = λ d low c. grind (arith, cases_Option (g.half.twin d), r.ends d low, r.left, stands, t.half.twin_ends d);
      kept = λ d k. search (rules, r.kept d k);
      trails = λ e m.
          let (d, rides, n) = next_is e m in
          let (k, p) = r.trails d rides in
          (suc k, (d, grown d k p, r.low d rides, or_right _ _ (or_left _ _ rides), n.straight, n.cross));
      tracked = λ d low c.
          let why : (s.covered d ≡ true) ⊎ (Rides d ⊎ ((e : ℕ) × (g.half.twin d ≡ Some e) × Rides e)) = search rules in
          elim why [
            | inl o ↦
                let (k, along) = r.tracked d low o in
                (k, elim along [ inl p ↦ inl (grown d k p) | inr (e, w, p) ↦ inr (e, w, grown e k p) ])
            | inr (inl m) ↦ let (k, p) = r.trails d m in (k, inl (grown d k p))
            | inr (inr (e, w, m)) ↦ let (k, p) = r.trails e m in (k, inr (e, w, grown e k p))
          ];
      through = λ d low k inner regular. elim (cases_Bool (s.stood (g.half.from d))) [
        | inl y ↦ grind (arith, common_steps, r.through d low y inner regular)
        | inr off ↦
            let (f, m, is) = any_where (arrives_at g now (g.half.from d)) now (rw off at k) in
            let e : end_of g f ≡ g.half.from d = eqb-true _ _ (and_parts _ _ is).0 in
            let next_low = t.half.next_low f (r.low f m) in
            let (a, b, c, x) = t.crossed _ next_low (ap g.boundary e ∙ inner) (ap g.singular e ∙ regular) in
            rw (← e) (decided f a b c m (ap s.stood e ∙ off) (ap g.boundary e ∙ inner) (ap g.singular e ∙ regular) x)
      ];
    }

-- The motion that starts with riders at given darts: its states, and its end.

-- All riders ride at first.
pub ridden_begun : (starts : List ℕ) → ridden (map begun starts) ≡ starts
ridden_begun [] = refl
ridden_begun (d ∷ ds) = ap (λ xs. d ∷ xs) (ridden_begun ds)

-- Where each dart with a twin that leaves the vertex of d is covered or ridden first, all edges there are shut.
module _ (g : Terrain) (t : IsTerrain g) (first : State) (d : ℕ) (low : d < g.half.count) (all : (e x : ℕ)
    → e < g.half.count → g.half.from e ≡ g.half.from d → g.half.twin e ≡ Some x → IsSoon first e) where
  pub shut_before : IsShut g first (g.half.prev d)
  shut_before = elim (cases_Option _) [
    | inl w ↦ inr (inl w)
    | inr (a, w) ↦ inr (inr (a, w, grind (arith, t.half.twin_twin (g.half.prev d) a (t.half.prev_low d low) w)))
  ]

  pub shut_beside : (e : ℕ) → g.half.twin d ≡ Some e → IsShut g first (g.half.next e)
  shut_beside e w = elim (cases_Option (g.half.twin (g.half.next e))) [
    | inl n ↦ inr (inl n)
    | inr (x, s) ↦ inl (all _ x (t.half.next_low e (t.half.twin_low d e low w)) (t.half.twin_ends d e low w).1 s)
  ]

module _ (g : Terrain) (t : IsTerrain g) (starts : List ℕ) (begin : IsStarted g starts) where
  rides_next : (d : ℕ) → is_among d starts ≡ true → is_among d (ridden (map begun starts)) ≡ true
  rides_next d m = ap (is_among d) (ridden_begun starts) ∙ m

  is_start : (d : ℕ) → is_among d (ridden (map begun starts)) ≡ true → is_among d starts ≡ true
  is_start d m = sym (ap (is_among d) (ridden_begun starts)) ∙ m

  spread : (d : ℕ) → d < g.half.count → is_among d starts ≡ true → (e x : ℕ) → e < g.half.count
      → g.half.from e ≡ g.half.from d → g.half.twin e ≡ Some x → IsSoon (start g starts) e
  spread d low m e x l at w = inr (rides_next e (begin.all d e x low l m at w))

  pub first : IsFirst g (λ e. is_among e starts) (start g starts)
  first = record {
    reached = record {
      apart = subst AreApart (sym (ridden_begun starts)) begin.apart;
      low = λ d m. begin.low d (is_start d m);
      left = λ d m. any_at (λ e. eqb (g.half.from e) (g.half.from d)) d starts (is_start d m) (eq-eqb _ _ refl);
      alike = λ d e low w. refl;
      ends = λ d low c. absurd (false≢true c);
      kept = λ d k. k;
      trails = λ d m. (0, is_start d m);
      tracked = λ d low c. absurd (false≢true c);
      -- Where one start is at a vertex with four faces, the opposite one is a start too.
      through = λ d low k inner regular.
          let (x, m, e) = any_where (λ e. eqb (g.half.from e) (g.half.from d)) starts k in
          let at : g.half.from x ≡ g.half.from d = eqb-true _ _ e in
          let x_low = begin.low x m in
          let (a, b, c, f) = t.crossed x x_low (ap g.boundary at ∙ inner) (ap g.singular at ∙ regular) in
          let a_low = low_a t.half x a b c x_low f in
          let b_low = low_b t.half x a b c x_low f in
          let b_twin = t.half.twin_twin (g.half.prev a) b (t.half.prev_low a a_low) f.second in
          crossed_at x_low at f (inr (rides_next x m)) (inr (rides_next b (begin.all x b (g.half.prev a) x_low b_low m
          (at_b t.half x a b c x_low f) b_twin)));
    };
    found = begin.found;
    begun = λ d low m. inr (rides_next d m);
    before = λ d low m. shut_before g t (start g starts) d low (spread d low m);
    beside = λ d e low m. shut_beside g t (start g starts) d low (spread d low m) e;
    singular = λ d low y. inl (inr (rides_next d (begin.singular d low y)));
    sided = λ d low y. elim (begin.sided d low y) [
      | inl m ↦ inl (inl (inr (rides_next (g.half.next d) m)))
      | inr (inl w) ↦ inl (inr (inl w))
      | inr (inr k) ↦ inr k
    ];
  }
