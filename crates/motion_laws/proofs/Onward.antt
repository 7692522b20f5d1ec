-- The states that the motion reaches from a first state, its end, and that what it traces is a full cut.
use Rattle.std.proofs.Common.{rules, ◌≡◌, ◌⊎◌, ℕ, zero, suc, ◌+◌, ◌<◌, ◌≤◌, Bool, true, not, cond, List, [], ◌∷◌}
use Rattle.std.proofs.Common.{map, length, Some, None, is_some, sym, subst, ap, ◌∙◌, refl, inl, inr, arith}
use Rattle.std.proofs.lemmas.Bool.{false_from_ne_true, false≢true, cases_Bool, cases_eq, or_left, or_right}
use Rattle.{std.proofs.lemmas.List.length-map, def_math.specs.Counts.count_below}
use Rattle.sum_laws.proofs.Sums.{count_below_lt, count_below_ones}
use Rattle.def_cut.specs.Motion.{Terrain, State, end_of, ridden, is_among, ride, step, later}
use Rattle.def_cut.specs.{Cuts.GoesOn as CutGoesOn, Cuts.IsCut, Trails.Trail, Trails.IsTraced}
use Rattle.def_cut.specs.{declared.moving.Moving.Moving, Traced.finish, Traced.is_cut}
use Rattle.cut_laws.proofs.{Corners.corner_law, Crosses.one_of_four, Crosses.low_b}
use Rattle.motion_laws.proofs.Bits.{IsTerrain, IsReachedFrom, IsFirst, IsSoon, IsShut, IsCrossedAt}
use Rattle.motion_laws.proofs.{Among.among_here, Among.cases_List, Among.cases_Option}
use Rattle.motion_laws.proofs.Steps.{trail_more, next_is, step_keeps, stands}

-- Where nobody rides, a step changes no rider.
pub still_riders : (g : Terrain) (stood : ℕ → Bool) (ds : List ℕ) (rs : List Moving) → ridden rs ≡ []
    → map (ride g stood ds) rs ≡ rs
still_riders g stood ds [] e = refl
still_riders g stood ds (q ∷ rs) e = grind (arith, cases_Option q.stop, still_riders g stood ds rs)

-- Where nobody runs, the motion stands still.
pub at_rest : (g : Terrain) (k : ℕ) (s : State) → ridden s.riders ≡ [] → finish g k s ≡ s
at_rest g zero s none = refl
at_rest g (suc k) s none = rw (none, finish)

pub runs_on : (g : Terrain) (k d : ℕ) (ds : List ℕ) (s : State) → ridden s.riders ≡ d ∷ ds → finish g (suc k) s
    ≡ finish g k (step g s)
runs_on g k d ds s is = search rules

pub rests_on : (g : Terrain) (first : State) (k : ℕ) → ridden (later g first k).riders ≡ []
    → ridden (later g first (suc k)).riders ≡ []
rests_on g first k none = search (rules, still_riders)

-- Steps keep the number of riders.
pub later_long : (g : Terrain) (s : State) (k : ℕ) → length (later g s k).riders ≡ length s.riders
later_long g s zero = refl
later_long g s (suc k) = length-map _ _ ∙ later_long g s k

-- Where the motion goes on until nobody runs, at most k steps, it is at one of its states.
pub finish_later : (g : Terrain) (first : State) (k i : ℕ) → (j : ℕ) × (finish g k (later g first i) ≡ later g first j)
    × ((ridden (later g first j).riders ≡ []) ⊎ (j ≡ k + i))
finish_later g first zero i = (i, refl, inr (omega arith))
finish_later g first (suc k) i =
    grind (arith, finish_later g first k (suc i), cases_List (ridden (later g first i).riders))

-- What is counted where marks are off is no more where more are on.
pub no_more_at : (b c : Bool) → (b ≡ true → c ≡ true) → cond c 0 1 ≤ cond b 0 1
no_more_at b c h1 = search rules

module _ (g : Terrain) (t : IsTerrain g) (begins : ℕ → Bool) (first : State) (begin : IsFirst g begins first) where
  pub later_reached : (n : ℕ) → IsReachedFrom g begins first (later g first n)
  later_reached zero = begin.reached
  later_reached (suc n) = step_keeps g t begins first (later g first n) (later_reached n)

  -- Who has stood at a vertex stays so.
  pub stood_later : (i j v : ℕ) → i ≤ j → (later g first i).stood v ≡ true → (later g first j).stood v ≡ true
  stood_later i zero v le k = let s : i ≡ 0 = omega arith in rw (← s) k
  stood_later i (suc j) v le k = grind (arith, stood_later i j v, cases_eq i (suc j))

  -- No dart is ridden at two instants.
  pub rides_once : (e i j : ℕ) → i < j → is_among e (ridden (later g first i).riders) ≡ true
      → is_among e (ridden (later g first j).riders) ≡ true → ⊥
  rides_once e i zero less m n = omega arith
  rides_once e i (suc j) less m n =
      let stays = stood_later i j (g.half.from e) (omega arith) ((later_reached i).left e m) in
      let (d, rides, x) = next_is g t begins first (later g first j) (later_reached j) e n in
      cc (x.fresh, x.at, stays)

  module _ (n : ℕ) (few : (d : ℕ) → d < g.half.count → g.half.from d < n) where
    -- How many vertices there are where nobody has stood.
    abbrev pub fresh : (s : State) → ℕ
    fresh s = count_below (λ v. cond (s.stood v) 0 1) n

    -- While somebody rides, each step leaves a rider at a vertex where none had stood.
    pub runs_out : (k e : ℕ) → is_among e (ridden (later g first k).riders) ≡ true → fresh (later g first k) + k < n
    runs_out zero e m =
        let less : cond (first.stood (g.half.from e)) 0 1 < 1 = rw (begin.reached.left e m) (omega arith) in
        let fewer : fresh first < count_below (λ v. 1) n =
        count_below_lt _ _ n _ (few e (begin.reached.low e m)) (search rules) less in
        omega (arith, count_below_ones n)
    runs_out (suc k) e m =
        let (d, rides, next) = next_is g t _ _ _ (later_reached k) e m in
        let less : cond ((later g first (suc k)).stood (end_of g d)) 0 1
        < cond ((later g first k).stood (end_of g d)) 0 1 =
        rw (stands g t _ _ _ (later_reached k) d rides, next.fresh) (omega arith) in
        let low = few (g.half.next d) (t.half.next_low d ((later_reached k).low d rides)) in
        let fewer : fresh (later g first (suc k)) < fresh (later g first k) =
        count_below_lt _ _ n _ low (search rules) less in
        omega (arith, runs_out k d rides)

    -- After as many steps as there are vertices nobody runs.
    pub last_rests : ridden (later g first n).riders ≡ []
    last_rests = elim (cases_List _) [
      | inl none ↦ none
      | inr (e, ds, is) ↦ absurd (omega (arith, runs_out n e (ap (is_among e) is ∙ among_here e e ds refl)))
    ]

    -- Nobody runs in the end, which is a state that the motion reaches.
    pub ends : (j : ℕ) × (finish g (suc n) first ≡ later g first j) × (ridden (later g first j).riders ≡ [])
    ends = let f = finish_later g first (suc n) 0 in (
      f.0,
      f.1,
      elim f.2 [
        | inl none ↦ none
        | inr s ↦ let same : f.0 ≡ suc n = omega (arith, s) in rw same (rests_on g first n last_rests)
      ],
    )

    pub nobody_runs : ridden (finish g (suc n) first).riders ≡ []
    nobody_runs = ap (λ (s : State). ridden s.riders) ends.1 ∙ ends.2

    pub end_reached : IsReachedFrom g begins first (finish g (suc n) first)
    end_reached = subst (IsReachedFrom g begins first) (sym ends.1) (later_reached ends.0)

  -- What is traced when nobody runs.
  module _ (s : State) (r : IsReachedFrom g begins first s) (none : ridden s.riders ≡ []) where
    abbrev cut : (d : ℕ) → Bool
    cut d = is_cut g s d

    soon_cut : (d : ℕ) → IsSoon s d → cut d ≡ true
    soon_cut d (inl c) = or_left _ _ c
    soon_cut d (inr m) = absurd (false≢true (sym (ap (is_among d) none) ∙ m))

    alone_cut : (d : ℕ) → g.half.twin d ≡ None → cut d ≡ true
    alone_cut d w = or_right _ _ (ap (λ o. not (is_some o)) w)

    cut_alike : (d e : ℕ) → d < g.half.count → g.half.twin d ≡ Some e → cut e ≡ cut d
    cut_alike d e low w = search rules

    -- What was shut first is cut.
    shut_cut : (d : ℕ) → d < g.half.count → IsShut g first d → cut d ≡ true
    shut_cut d low (inl k) = soon_cut d (r.kept d k)
    shut_cut d low (inr (inl w)) = alone_cut d w
    shut_cut d low (inr (inr (e, w, k))) = sym (cut_alike d e low w) ∙ soon_cut e (r.kept e k)

    -- The cut goes on after each of its darts.
    goes : (d : ℕ) → d < g.half.count → cut d ≡ true → CutGoesOn g.half cut d
    goes d low c =
        let next = g.half.next d in
        let next_low = t.half.next_low d low in
        elim (cases_Bool (g.boundary (end_of g d))) [
          | inl y ↦ elim (begin.sided d low y)
              [ inl k ↦ inl (shut_cut next next_low k) | inr e ↦ inr (e.0, e.1, alone_cut _ e.2) ]
          | inr inner ↦ elim (cases_Bool (g.singular (end_of g d))) [
            | inl y ↦ inl (shut_cut _ next_low (begin.singular next next_low y))
            | inr regular ↦ by_cross (r.through next next_low (search rules) inner regular)
          ]
        ]
      where
        by_cross : IsCrossedAt g s (end_of g d) → CutGoesOn g.half cut d
        by_cross c =
            let on = soon_cut c.x c.soon in
            let there = soon_cut c.b c.facing in
            elim (one_of_four t.half c.x _ c.b _ c.low c.cross _
            (record { low = t.half.next_low d low; at = sym c.at })) [
              | inl e ↦ inl (ap cut e ∙ on)
              | inr (inl e) ↦ inr (g.half.prev c.x, search rules, ap cut (t.half.next_prev c.x) ∙ on)
              | inr (inr (inl e)) ↦ inl (ap cut e ∙ there)
              | inr (inr (inr e)) ↦ inr (g.half.prev c.b, search (rules, low_b), ap cut (t.half.next_prev c.b) ∙ there)
            ]

    traced : IsTraced g.half begins cut
    traced = record {
      alike = cut_alike;
      boundary = λ d low w. alone_cut d w;
      started = λ d low b. soon_cut d (r.kept d (begin.begun d low b));
      before = λ d low b. shut_cut _ (t.half.prev_low d low) (begin.before d low b);
      beside = λ d e low b w. shut_cut _ (t.half.next_low e (t.half.twin_low d e low w)) (begin.beside d e low b w);
      tracked = λ d e low w c.
          let more = λ (x k : ℕ) (p : Trail g.half begins s.covered x k).
          trail_more g.half _ _ cut (λ e c. or_left _ _ c) x k p in
          grind (arith, r.tracked d low);
    }

    -- What is traced is a full cut.
    pub full_cut : IsCut g.half cut
    full_cut = record {
      alike = cut_alike;
      boundary = λ d low w. alone_cut d w;
      gaps = goes;
      -- A vertex without cut edges has four faces.
      crossed = λ d low u. t.crossed d low (false_from_ne_true _ (λ y. grind (arith, t.rimmed d low y, u, alone_cut)))
          (false_from_ne_true _ (λ y. grind (arith, begin.singular d low y, u d, shut_cut d low)));
      corner = corner_law g.half begins cut t.half begin.found traced;
    }
