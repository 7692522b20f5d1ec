-- Events keep what event states show, so every order of events has one end.
use Rattle.std.proofs.lemmas.Grind.{common_steps}
use Rattle.std.proofs.Common.{rules, ◌≡◌, ℕ, zero, suc, ◌+◌, ◌-◌, ◌<◌, ◌≤◌, Bool, true, false, cond, ◌&&◌, ◌||◌}
use Rattle.std.proofs.Common.{List, [], ◌∷◌, ◌++◌, length, set, replicate, Some, None, sym, ap, ◌∙◌, refl, inl}
use Rattle.std.proofs.{Common.inr, Common.arith, lemmas.List.length-append, Math.Bool.or-false}
use Rattle.std.proofs.lemmas.Bool.{eq-eqb, eqb-true, false≢true, cases_Bool, cases_eq, cases_lt}
use Rattle.std.proofs.lemmas.Bool.{and_from, not_from_false, false_from_ne_true}
use Rattle.std.proofs.lemmas.List.{get_or-set_same, get_or-set_other, length-set, length-replicate, length-map}
use Rattle.def_cut.specs.Motion.{Terrain, State, end_of, ridden, is_among, arrives_at, begun}
use Rattle.def_cut.specs.Motion.{step, start, after_steps}
use Rattle.def_cut.specs.{FullCut.is_on, declared.moving.Moving.Moving, Traced.end_state}
use Rattle.def_cut.specs.Events.{EventState, waiting, darts_in, rider_at, note_at, may_ride, after_ride_of}
use Rattle.def_cut.specs.Events.{leads_to, may_settle, decided_at, are_ends_settled, closed, after_settling}
use Rattle.def_cut.specs.Events.{first_state, Event, May, Leads, rides_in, NobodyRuns}
use Rattle.motion_laws.proofs.Marks.{none_on, no_darts, cover_more, from_marks, marked_long, noted_more}
use Rattle.motion_laws.proofs.Marks.{noted_longer, apart_few, among_append, apart_append}
use Rattle.motion_laws.proofs.Shown.{runs_ridden, IsShown, AreShown, all_noted, darts_of, noted_rides, notes_of}
use Rattle.motion_laws.proofs.Shown.{ride_shown, somebody, as_was, still_runs, closed_is, none_shown, told_shown}
use Rattle.motion_laws.proofs.Onward.{ends, later_reached, rides_once, runs_out, still_riders}
use Rattle.motion_laws.proofs.Among.{any_at, any_where, all_at, not_all, AreApart, cases_Option}
use Rattle.motion_laws.proofs.Bits.{IsTerrain, IsStarted, IsReached}
use Rattle.{std.specs.List.list_any, def_cut.specs.Events.Event.Ride, def_cut.specs.Events.Event.Settle}
use Rattle.motion_laws.proofs.Steps.{first}

-- Where nobody runs, nobody rides.
nobody_rides : (rs : List Moving) → ((r : ℕ) → r < length rs → (rider_at rs r).stop ≡ None → ⊥) → ridden rs ≡ []
nobody_rides [] none = refl
nobody_rides (q ∷ rs) none =
    grind (arith, cases_Option q.stop, none 0, nobody_rides rs (λ r l. none (suc r) (omega arith)))

-- All darts ridden before instant k.
abbrev pub history : (g : Terrain) (starts : List ℕ) (k : ℕ) → List ℕ
history g starts zero = []
history g starts (suc k) = ridden (after_steps g starts k).riders ++ history g starts k

-- Riders move from their starts, over n vertices.
pub record IsCourse (g : Terrain) (starts : List ℕ) (n : ℕ) : Type 0 where
  pub terrain : IsTerrain g
  pub begin : IsStarted g starts
  pub few : (d : ℕ) → d < g.half.count → g.half.from d < n

-- An event state stands within an instant of the motion, and so many rides have been made.
pub record IsWithin (g : Terrain) (starts : List ℕ) (n : ℕ) (x : EventState) (rides : ℕ) : Type 0 where
  pub course : IsCourse g starts n
  pub open course use {terrain, begin, few}
  pub instant : ℕ
  pub shown : IsShown g n (after_steps g starts instant) x
  pub counted : length (darts_in x.noted) + length (history g starts instant) ≡ rides

-- All states of the motion where nobody runs are alike.
abbrev pub Alike : (s u : State) → Type 0
Alike s u = (s.riders ≡ u.riders) × ((d : ℕ) → s.covered d ≡ u.covered d)

module _ {g : Terrain} {starts : List ℕ} {n : ℕ} (w : IsCourse g starts n) where
  open w use {terrain, begin, few}

  abbrev after : ℕ → State
  after k = after_steps g starts k

  pub reached_at : (k : ℕ) → IsReached g starts (after_steps g starts k)
  reached_at = later_reached g terrain (λ e. is_among e starts) (start g starts) (first g terrain starts begin)

  -- At most as many rides as darts.
  in_history : (k d : ℕ) → is_among d (history g starts k) ≡ true → (i : ℕ) × (i < k)
      × (is_among d (ridden (after i).riders) ≡ true)
  in_history zero d m = absurd (false≢true m)
  in_history (suc k) d m = grind (arith, common_steps, in_history k d)

  not_before : (k d : ℕ) → is_among d (ridden (after k).riders) ≡ true → is_among d (history g starts k) ≡ true → ⊥
  not_before k d m b = let r = in_history k d b in rides_once g terrain _ _ (first g terrain _ begin) d _ k r.1 r.2 m

  history_apart : (k : ℕ) → AreApart (history g starts k)
  history_apart zero = tt
  history_apart (suc k) = apart_append _ _ (reached_at k).apart (history_apart k) (not_before k)

  rest_more : (k j : ℕ) → ridden (after k).riders ≡ [] → Alike (after (j + k)) (after k)
  rest_more k zero none = let e : 0 + k ≡ k = omega arith in rw e (refl, λ d. refl)
  rest_more k (suc j) none =
      let e : suc j + k ≡ suc (j + k) = omega arith in
      search (rules, still_riders, rest_more k j none)

  alike : (i j : ℕ) → ridden (after i).riders ≡ [] → ridden (after j).riders ≡ [] → Alike (after i) (after j)
  alike i j a b = grind (arith, cases_lt i j, rest_more i (j - i) a, rest_more j (i - j) b)

  -- While somebody rides, fewer steps were made than there are vertices.
  pub steps_few : (k e : ℕ) → is_among e (ridden (after_steps g starts k).riders) ≡ true → k < n
  steps_few k e m = let low = runs_out g terrain _ _ (first g terrain _ begin) n few k e m in omega (arith, low)

  -- Wherever nobody runs, the state is like the last.
  like_last : (i : ℕ) → ridden (after i).riders ≡ [] → Alike (after i) (end_state g n starts)
  like_last i none =
      let f = ends g terrain (λ e. is_among e starts) (start g starts) (first g terrain starts begin) n few in
      search (rules, alike)

module _ {g : Terrain} {starts : List ℕ} {n : ℕ} {x : EventState} {c : ℕ} (w : IsWithin g starts n x c) where
  open w use {course, terrain, begin, few, instant, shown, counted, shown.riders}

  -- The state of the motion when the instant began.
  abbrev pub since : State
  since = after_steps g starts instant

  abbrev now : List ℕ
  now = ridden since.riders

  pub reached : IsReached g starts (after_steps g starts w.instant)
  reached = reached_at course instant

  -- A ride.
  module _ (r : ℕ) (low : r < length x.riders) (may : may_ride x r ≡ true) where
    abbrev dart : ℕ
    dart = (rider_at x.riders r).dart

    pub rode : (note_at x.noted r ≡ None)
        × (is_among (rider_at x.riders r).dart (ridden (after_steps g starts w.instant).riders) ≡ true)
    rode = search (rules, runs_ridden)

    pub noted_low : r < length x.noted
    noted_low = omega (arith, low, riders.riders_long, riders.notes_long)

    pub ride_keeps : IsWithin g starts n (after_ride_of g x r) (suc c)
    ride_keeps =
        let more = λ (f : ℕ). noted_more _ r _ f noted_low rode.0 in
        record {
          course = course;
          instant = instant;
          shown = record {
            riders = ride_shown riders r low may (search rules);
            stood_long = shown.stood_long;
            covered_long = search rules;
            settled_long = shown.settled_long;
            stood = shown.stood;
            covered = λ e l. grind (
              arith,
              cover_more g.half terrain.half x.covered dart (reached.low _ rode.1) shown.covered_long (darts_in x.noted)
                  (darts_in (set x.noted r (Some dart))) more (since.covered e) e l (shown.covered e l),
            );
            ends = λ v on. absurd (false≢true (sym (search rules) ∙ on));
            phase = inr (search rules);
            rest = inr (dart, search (rules, eq-eqb), (search rules));
          };
          counted = omega (arith, noted_longer _ r dart noted_low rode.0);
        }

  -- What holds wherever nobody waits.
  module _ (done : waiting x.riders x.noted ≡ 0) where
    pub all_ridden : darts_in x.noted ≡ ridden (after_steps g starts w.instant).riders
    all_ridden = darts_of since.riders x.noted riders.notes_long riders.noted (all_noted riders done)

    -- Where v is not settled, somebody has stood there where somebody had when the instant began.
    pub stood_then : (v : ℕ) → v < n → is_on x.settled v ≡ false
        → is_on x.stood v ≡ (after_steps g starts w.instant).stood v
    stood_then v l off = shown.stood v l ∙ rw off (or-false (since.stood v))

  -- A settling.
  module _ (v : ℕ) (may : may_settle g x v ≡ true) where
    abbrev is_settled : ℕ → Bool
    is_settled u = is_on (set x.settled v true) u

    pub parts : (waiting x.riders x.noted ≡ 0) × (list_any (leads_to g v) (darts_in x.noted) ≡ true)
        × (is_on x.settled v ≡ false)
    parts = search rules

    -- A noted dart ends there.
    pub some_end : (d : ℕ) × (is_among d (darts_in x.noted) ≡ true) × (end_of g d ≡ v)
    some_end = let f = any_where (leads_to g v) (darts_in x.noted) parts.1 in (f.0, f.1, eqb-true _ _ f.2)

    pub ends_then : (u : ℕ) → is_on (set x.settled v true) u ≡ true
        → (d : ℕ) × (is_among d (darts_in x.noted) ≡ true) × (end_of g d ≡ u)
    ends_then u on = search (rules, cases_eq u v, some_end, shown.ends u, get_or-set_other x.settled v u true false)

    pub v_low : v < n
    v_low =
        let low = reached.low some_end.0 (noted_rides riders some_end.0 some_end.1) in
        omega (arith, few (g.half.next some_end.0) (terrain.half.next_low some_end.0 low), some_end.2)

    now_on : is_on (set x.settled v true) v ≡ true
    now_on = get_or-set_same x.settled v true false (omega (arith, v_low, shown.settled_long))

    pub told_riders : AreShown g (after_steps g starts w.instant).stood (ridden (after_steps g starts w.instant).riders)
        (is_on (set x.settled v true)) (after_steps g starts w.instant).riders (decided_at g x v).riders x.noted
    told_riders = rw (all_ridden parts.0) (told_shown riders is_settled v (is_on x.stood)
        (λ u ne. get_or-set_other x.settled v u true false ne) now_on parts.2 (stood_then parts.0 v v_low parts.2))

    stands_now : (u : ℕ) → u < n → is_on (decided_at g x v).stood u
        ≡ (since.stood u || (is_settled u && list_any (arrives_at g now u) now))
    stands_now u l = elim (cases_eq u v) [ inl e ↦ search (rules, all_ridden) | inr ne ↦ search rules ]

    pub settle_keeps : IsWithin g starts n (after_settling g x v) c
    settle_keeps = at (are_ends_settled g _ _) refl
      where
        none : (u : ℕ) → is_on (replicate (length (set x.settled v true)) false) u ≡ false
        none = none_on _

        -- Where the instant ends, its motion is a step.
        settled_in : are_ends_settled g (set x.settled v true) (darts_in x.noted) ≡ true → (u : ℕ)
            → (since.stood u || (is_settled u && list_any (arrives_at g now u) now)) ≡ (step g since).stood u
        settled_in on u = elim (cases_Bool (is_settled u)) [
          | inl y ↦ rw y refl
          | inr off ↦
              let nobody : list_any (arrives_at g (ridden since.riders) u) (ridden since.riders) ≡ false =
              false_from_ne_true _ (search (rules, any_where (arrives_at g now u) now, all_at, all_ridden parts.0)) in
              rw (off, nobody) refl
        ]

        at : (b : Bool) → are_ends_settled g (set x.settled v true) (darts_in x.noted) ≡ b
            → IsWithin g starts n (cond b (closed (decided_at g x v)) (decided_at g x v)) c
        at false off = record {
          course = course;
          instant = instant;
          shown = record {
            riders = told_riders;
            stood_long = length-set _ v _ ∙ shown.stood_long;
            covered_long = shown.covered_long;
            settled_long = length-set _ v _ ∙ shown.settled_long;
            stood = stands_now;
            covered = shown.covered;
            ends = ends_then;
            phase = inl (all_noted riders parts.0);
            rest = inr (not_all (λ d. is_settled (end_of g d)) (darts_in x.noted) off);
          };
          counted = counted;
        }
        at true on =
            let same : (decided_at g x v).riders ≡ (step g since).riders = grind (
              arith,
              closed_is told_riders (all_noted riders parts.0),
              all_at,
            ) in
            record {
              course = course;
              instant = suc instant;
              shown = record {
                riders = grind (arith, common_steps);
                stood_long = length-set _ v _ ∙ shown.stood_long;
                covered_long = shown.covered_long;
                settled_long = search (rules, length-replicate);
                stood = search (rules, stands_now, settled_in, none);
                covered = search (rules, all_ridden, no_darts);
                ends = λ u on. absurd (false≢true (sym (none u) ∙ on));
                phase = inr none;
                rest = inl (no_darts (length x.noted), none);
              };
              counted = search (rules, no_darts, length-append, all_ridden);
            }

  pub bounded : c ≤ g.half.count
  bounded =
      let apart = apart_append _ _ (notes_of _ _ riders.notes_long riders.noted reached.apart)
      (history_apart course instant) (search (rules, not_before, noted_rides)) in
      let low : (d : ℕ) → is_among d (darts_in x.noted ++ history g starts instant) ≡ true → d < g.half.count =
      grind (arith, among_append, noted_rides riders, in_history course instant, reached_at course) in
      search (rules, length-append, apart_few)

  -- Where a rider runs, some event is possible.
  pub possible : (r : ℕ) → r < length x.riders → (rider_at x.riders r).stop ≡ None → (e : Event) × May g x e
  possible r low runs = elim (somebody x.riders _) [
    | inr q ↦ (Ride q.0, (q.1, q.2))
    | inl done ↦ elim shown.rest [
      | inl none ↦ absurd (grind (arith, as_was riders none.0, all_ridden done, runs_ridden x.riders r low runs))
      | inr f ↦ (Settle (end_of g f.0), search (rules, and_from, eq-eqb, any_at, not_from_false))
    ]
  ]

  -- The end of every order of events is the end of the motion.
  pub one_end : NobodyRuns x → (x.riders ≡ (end_state g n starts).riders)
      × ((d : ℕ) → d < g.half.count → is_on x.covered d ≡ (end_state g n starts).covered d)
  one_end over = elim shown.rest [
    | inl e ↦
        let same = as_was riders e.0 in
        let r = like_last course instant (sym (ap ridden same) ∙ nobody_rides x.riders over) in
        (same ∙ r.0, λ d l. grind (arith, shown.covered d l, cases_Option (g.half.twin d), r.1 d, e.0))
    | inr f ↦ let q = still_runs riders f.0 f.1 f.2 in absurd (over q.0 q.1 q.2)
  ]

within_from : {g : Terrain} {starts : List ℕ} {n : ℕ} (es : List Event) (x y : EventState) (c : ℕ)
    → IsWithin g starts n x c → Leads g x es y → IsWithin g starts n y (c + rides_in es)
within_from [] x y c w l = let e : c + 0 ≡ c = omega arith in rw e (rw l at w)
within_from {g} (Ride r ∷ es) x y c w l =
    search (rules, within_from es (after_ride_of g x r) y (suc c) (ride_keeps w r l.0.0 l.0.1) l.1)
within_from {g} (Settle v ∷ es) x y c w l = within_from es (after_settling g x v) y c (settle_keeps w v l.0) l.1

-- Every state that events lead to stands within an instant.
pub within : {g : Terrain} {starts : List ℕ} {n : ℕ} → IsCourse g starts n → (es : List Event) (x : EventState)
    → Leads g (first_state g n starts) es x → IsWithin g starts n x (rides_in es)
within {g} {starts} {n} w es x l =
    let e : 0 + rides_in es ≡ rides_in es = omega arith in
    rw (← e) (within_from es _ x 0 (record {
      course = w;
      instant = 0;
      shown = record {
        riders = none_shown g _ _ _ _ _ (length-map starts begun);
        stood_long = marked_long g starts _ ∙ length-replicate n false;
        covered_long = length-replicate g.half.count false;
        settled_long = length-replicate n false;
        stood = search (rules, from_marks, length-replicate, none_on);
        covered = search (rules, none_on, no_darts);
        ends = λ v on. absurd (false≢true (sym (none_on n v) ∙ on));
        phase = inr (none_on n);
        rest = inl (no_darts (length starts), none_on n);
      };
      counted = omega (arith, ap length (no_darts (length starts)));
    }) l)
