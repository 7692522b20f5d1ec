-- The riders after a step: which darts they ride next, and that these differ.
use Rattle.std.proofs.lemmas.Grind.{common_steps}
use Rattle.std.proofs.Common.{rules, ◌≡◌, ◌⊎◌, ℕ, zero, suc, ◌<◌, Bool, true, List, [], ◌∷◌, map, length, Option, Some}
use Rattle.std.proofs.Common.{None, sym, ap, ◌∙◌, refl, inl, inr, arith, ◌≢◌, false, cond, ◌&&◌, ◌||◌, set, replicate}
use Rattle.std.proofs.lemmas.Bool.{false≢true, false_from_ne_true, ne_eqb, eq-eqb, cases_Bool, cases_lt}
use Rattle.std.proofs.lemmas.List.{ext_get_or, get_or-map, get_or-set_other, length-map, length-set, length-replicate}
use Rattle.std.{specs.List.list_any}
use Rattle.def_cut.specs.Motion.{Terrain, straight, with_next, ridden, is_among, stop_of, or_else, ride, State}
use Rattle.def_cut.specs.Motion.{end_of, is_met, arrives_at, begun, after_ride}
use Rattle.def_cut.specs.Events.{rider_at, EventState, is_waiting, waiting, darts_in, note_at}
use Rattle.def_cut.specs.Events.{ridden_once_more, told_at, all_told}
use Rattle.def_cut.specs.{declared.graph.Stop.Stop, declared.moving.Moving.Moving, FullCut.is_on}
use Rattle.motion_laws.proofs.Among.{among_here, among_later, among_cases, AreApart, cases_Option}
use Rattle.motion_laws.proofs.Marks.{noted_where, noted_among}

-- Who rides next, among those of a rider and later ones.
pub with_later : (o : Option Stop) (x d : ℕ) (later : List ℕ) → is_among d later ≡ true
    → is_among d (with_next o x later) ≡ true
with_later o x d later m = grind (arith, cases_Option o, among_later)

pub with_cases : (o : Option Stop) (x d : ℕ) (later : List ℕ) → is_among d (with_next o x later) ≡ true
    → ((o ≡ None) × (d ≡ x)) ⊎ (is_among d later ≡ true)
with_cases None x d later m = elim (among_cases d x later m) [ inl s ↦ inl (refl, s) | inr r ↦ inr r ]
with_cases (Some s) x d later m = inr m

-- A rider that runs is among those who ride next.
pub runs_ridden : (rs : List Moving) (r : ℕ) → r < length rs → (rider_at rs r).stop ≡ None
    → is_among (rider_at rs r).dart (ridden rs) ≡ true
runs_ridden [] r l runs = absurd (omega arith)
runs_ridden (q ∷ rs) zero l runs = rw runs (among_here q.dart q.dart (ridden rs) refl)
runs_ridden (q ∷ rs) (suc r) l runs = search (rules, runs_ridden rs r (omega arith) runs)

-- Darts of riders that differ still do without the first rider's.
pub apart_later : (o : Option Stop) (d : ℕ) (later : List ℕ) → AreApart (with_next o d later) → AreApart later
apart_later None d later a = a.1
apart_later (Some s) d later a = a

-- A rider that runs may come in front, where its dart is another.
apart_with : (o : Option Stop) (d : ℕ) (later : List ℕ) → (o ≡ None → is_among d later ≡ false) → AreApart later
    → AreApart (with_next o d later)
apart_with None d later fresh a = (fresh refl, a)
apart_with (Some s) d later fresh a = a

module _ (g : Terrain) (stood : ℕ → Bool) (ds : List ℕ) where
  -- The dart after d for a rider that goes on.
  abbrev pub next_dart : (d : ℕ) → ℕ
  next_dart d = or_else (straight g d) d

  -- Who rides after the step.
  abbrev riding : (rs : List Moving) → List ℕ
  riding rs = ridden (map (ride g stood ds) rs)

  -- A rider that runs after the step ran before it, and goes on.
  from_rider : (r : Moving) (e : ℕ) → ((ride g stood ds r).stop ≡ None) × (e ≡ (ride g stood ds r).dart)
      → (r.stop ≡ None) × (stop_of g stood ds r.dart ≡ None) × (e ≡ next_dart r.dart)
  from_rider r e f = grind (arith, cases_Option r.stop, cases_Option (stop_of g stood ds r.dart))

  -- What is ridden next comes from a rider that goes on.
  pub next_from : (rs : List Moving) (e : ℕ) → is_among e (riding rs) ≡ true
      → (d : ℕ) × (is_among d (ridden rs) ≡ true) × (stop_of g stood ds d ≡ None) × (e ≡ next_dart d)
  next_from [] e m = absurd (false≢true m)
  next_from (r ∷ rs) e m = elim (with_cases (ride g stood ds r).stop _ e (riding rs) m) [
    | inl f ↦ let h = from_rider r e f in (r.dart, rw h.0 (among_here r.dart r.dart (ridden rs) refl), h.1, h.2)
    | inr k ↦ let n = next_from rs e k in (n.0, with_later r.stop r.dart n.0 (ridden rs) n.1, n.2, n.3)
  ]

  -- And each rider that goes on rides its next dart.
  pub next_to : (rs : List Moving) (d : ℕ) → is_among d (ridden rs) ≡ true → stop_of g stood ds d ≡ None
      → is_among (next_dart d) (riding rs) ≡ true
  next_to [] d m on = absurd (false≢true m)
  next_to (r ∷ rs) d m on = let rest = next_to rs d in search (rules, with_later)

  -- Riders that go on ride different darts, where the next darts of different darts differ.
  pub next_apart : (rs : List Moving) → AreApart (ridden rs) → ((d e : ℕ) → is_among d (ridden rs) ≡ true
      → is_among e (ridden rs) ≡ true → stop_of g stood ds d ≡ None → stop_of g stood ds e ≡ None
      → next_dart d ≡ next_dart e → d ≡ e) → AreApart (riding rs)
  next_apart [] apart differ = tt
  next_apart (r ∷ rs) apart differ =
      let rest = next_apart rs (apart_later _ _ _ apart)
      (λ d e m n. differ d e (with_later _ _ d _ m) (with_later _ _ e (ridden rs) n)) in
      apart_with _ _ _ (λ runs. false_from_ne_true _ (λ m.
      let h = from_rider r _ (runs, refl) in grind (arith, common_steps, next_from rs _ m, differ r.dart))) rest

-- What an event state shows of the motion: it stands within the instant that begins with one state of the motion.

-- What a rider shows within an instant: b at its start, n the dart noted for it, and `settled` the vertices settled.
abbrev pub shown_by : (g : Terrain) (stood : ℕ → Bool) (ds : List ℕ) (settled : ℕ → Bool) (b : Moving) (n : Option ℕ)
    → Moving
shown_by g stood ds settled b None = b
shown_by g stood ds settled b (Some d) = cond (settled (end_of g d)) (after_ride g d b.rides (stop_of g stood ds d))
    (ridden_once_more b)

-- Each note is of its rider's next dart, and the rider ran.
abbrev pub AreNoted : (bs : List Moving) (ns : List (Option ℕ)) → Type 0
AreNoted bs ns = (r d : ℕ) → note_at ns r ≡ Some d → ((rider_at bs r).stop ≡ None) × (d ≡ (rider_at bs r).dart)

-- Riders at the start of an instant, riders now, and their notes.
pub record AreShown (g : Terrain) (stood : ℕ → Bool) (ds : List ℕ) (settled : ℕ → Bool) (bs rs : List Moving)
    (ns : List (Option ℕ)) : Type 0 where
  pub riders_long : length rs ≡ length bs
  pub notes_long : length ns ≡ length bs
  pub noted : AreNoted bs ns
  pub shows : (r : ℕ) → rider_at rs r ≡ shown_by g stood ds settled (rider_at bs r) (note_at ns r)

-- Each rider that ran has its note.
abbrev pub AllNoted : (bs : List Moving) (ns : List (Option ℕ)) → Type 0
AllNoted bs ns = (r : ℕ) → r < length bs → (rider_at bs r).stop ≡ None → note_at ns r ≡ Some (rider_at bs r).dart

-- The state s of the motion at the start of the open instant, for n vertices.
pub record IsShown (g : Terrain) (n : ℕ) (s : State) (x : EventState) : Type 0 where
  pub riders : AreShown g s.stood (ridden s.riders) (is_on x.settled) s.riders x.riders x.noted
  pub stood_long : length x.stood ≡ n
  pub covered_long : length x.covered ≡ g.half.count
  pub settled_long : length x.settled ≡ n
  pub stood : (v : ℕ) → v < n → is_on x.stood v ≡ (s.stood v
      || (is_on x.settled v && list_any (arrives_at g (ridden s.riders) v) (ridden s.riders)))
  pub covered : (d : ℕ) → d < g.half.count
      → is_on x.covered d ≡ (s.covered d || (is_among d (darts_in x.noted) || is_met g (darts_in x.noted) d))
  pub ends : (v : ℕ) → is_on x.settled v ≡ true → (d : ℕ) × (is_among d (darts_in x.noted) ≡ true) × (end_of g d ≡ v)
  pub phase : AllNoted s.riders x.noted ⊎ ((v : ℕ) → is_on x.settled v ≡ false)
  pub rest : ((darts_in x.noted ≡ []) × ((v : ℕ) → is_on x.settled v ≡ false))
      ⊎ ((d : ℕ) × (is_among d (darts_in x.noted) ≡ true) × (is_on x.settled (end_of g d) ≡ false))

-- Who waits runs and has no note.
pub waits_runs : (o : Option Stop) (n : Option ℕ) → is_waiting o n ≡ true → (o ≡ None) × (n ≡ None)
waits_runs o n w = grind (arith, cases_Option o, cases_Option n)

-- Who waits is counted; where somebody waits, it has a number.
waits_counted : (rs : List Moving) (ns : List (Option ℕ)) (r : ℕ) → r < length rs → r < length ns
    → is_waiting (rider_at rs r).stop (note_at ns r) ≡ true → 0 < waiting rs ns
waits_counted (q ∷ rs) (n ∷ ns) zero l h w = rw w (omega arith)
waits_counted (q ∷ rs) (n ∷ ns) (suc r) l h w = search (rules, waits_counted rs ns r (omega arith) (omega arith) w)
waits_counted _ _ r l h w = absurd (omega arith)

pub somebody : (rs : List Moving) (ns : List (Option ℕ)) → (waiting rs ns ≡ 0)
    ⊎ ((r : ℕ) × (r < length rs) × (is_waiting (rider_at rs r).stop (note_at ns r) ≡ true))
somebody [] ns = inl refl
somebody (r ∷ rs) [] = inl refl
somebody (r ∷ rs) (n ∷ ns) = elim (cases_Bool (is_waiting r.stop n)) [
  | inl on ↦ inr (0, omega arith, on)
  | inr off ↦ elim (somebody rs ns) [ inl e ↦ inl (rw off e) | inr k ↦ inr (suc k.0, omega (arith, k.1), k.2) ]
]

-- Where all that ran have notes, the noted darts are those ridden.
pub darts_of : (bs : List Moving) (ns : List (Option ℕ)) → length ns ≡ length bs → AreNoted bs ns → AllNoted bs ns
    → darts_in ns ≡ ridden bs
darts_of [] [] l noted all = refl
darts_of (b ∷ bs) (n ∷ ns) l noted all =
    let rest = darts_of bs ns (omega arith) (λ r. noted (suc r)) (λ r h. all (suc r) (omega arith)) in
    grind (arith, cases_Option n, cases_Option b.stop, all 0, noted 0)
darts_of _ _ l noted all = absurd (omega arith)

-- Noted darts are ridden, each once.
notes_ridden : (bs : List Moving) (ns : List (Option ℕ)) (d : ℕ) → length ns ≡ length bs → AreNoted bs ns
    → is_among d (darts_in ns) ≡ true → is_among d (ridden bs) ≡ true
notes_ridden bs ns d same noted m = search (rules, noted_where, runs_ridden)

pub notes_of : (bs : List Moving) (ns : List (Option ℕ)) → length ns ≡ length bs → AreNoted bs ns → AreApart (ridden bs)
    → AreApart (darts_in ns)
notes_of [] [] l noted p = tt
notes_of (b ∷ bs) (None ∷ ns) l noted p =
    notes_of bs ns (omega arith) (λ r. noted (suc r)) (apart_later b.stop b.dart (ridden bs) p)
notes_of (b ∷ bs) (Some d ∷ ns) l noted p =
    let (runs, same) = noted 0 d refl in
    let q : AreApart (b.dart ∷ ridden bs) = rw runs at p in
    let fresh = λ (m : is_among d (darts_in ns) ≡ true). notes_ridden bs ns d (omega arith) (λ r. noted (suc r)) m in
    (grind (arith, fresh, q.0), notes_of bs ns (omega arith) (λ r. noted (suc r)) q.1)
notes_of _ _ l noted p = absurd (omega arith)

-- All riders told, rider by rider.
pub told_place : (g : Terrain) (stood : ℕ → Bool) (ds : List ℕ) (v : ℕ) (rs : List Moving) (ns : List (Option ℕ))
    (r : ℕ) → length ns ≡ length rs → rider_at (all_told g stood ds v rs ns) r
    ≡ told_at g stood ds v (rider_at rs r) (note_at ns r)
told_place g stood ds v [] [] r e = refl
told_place g stood ds v (q ∷ rs) (n ∷ ns) zero e = refl
told_place g stood ds v (q ∷ rs) (n ∷ ns) (suc r) e = told_place g stood ds v rs ns r (omega arith)
told_place g stood ds v _ _ r e = absurd (omega arith)

-- How many riders there are stays so.
pub told_long : (g : Terrain) (stood : ℕ → Bool) (ds : List ℕ) (v : ℕ) (rs : List Moving) (ns : List (Option ℕ))
    → length ns ≡ length rs → length (all_told g stood ds v rs ns) ≡ length rs
told_long g stood ds v [] ns e = refl
told_long g stood ds v (r ∷ rs) [] e = absurd (omega arith)
told_long g stood ds v (r ∷ rs) (n ∷ ns) e = ap suc (told_long g stood ds v rs ns (omega arith))

module _ {g : Terrain} {stood : ℕ → Bool} {ds : List ℕ} {V : ℕ → Bool} {bs rs : List Moving} {ns : List (Option ℕ)}
    (a : AreShown g stood ds V bs rs ns) where
  -- Who has no note is as at the start.
  pub bare : (r : ℕ) → note_at ns r ≡ None → rider_at rs r ≡ rider_at bs r
  bare r none = rw none at (a.shows r)

  -- Where nobody waits, each that ran has its note, so the noted darts are those ridden.
  pub all_noted : waiting rs ns ≡ 0 → AllNoted bs ns
  all_noted w r l runs = grind (arith, cases_Option (note_at ns r), bare r, a.noted r, waits_counted rs ns r)

  pub noted_rides : (d : ℕ) → is_among d (darts_in ns) ≡ true → is_among d (ridden bs) ≡ true
  noted_rides d m = notes_ridden bs ns d a.notes_long a.noted m

  -- A ride of a waiting rider whose dart ends where nothing is settled.
  pub ride_shown : (r : ℕ) → r < length rs → is_waiting (rider_at rs r).stop (note_at ns r) ≡ true
      → V (end_of g (rider_at rs r).dart) ≡ false
      → AreShown g stood ds V bs (set rs r (ridden_once_more (rider_at rs r))) (set ns r (Some (rider_at rs r).dart))
  ride_shown r l w off =
      let (runs, none) = waits_runs _ _ w in
      record {
        riders_long = length-set rs r _ ∙ a.riders_long;
        notes_long = length-set ns r _ ∙ a.notes_long;
        noted = search rules;
        shows = search (rules, get_or-set_other);
      }

  -- Nothing noted: the riders are as at the start.
  pub as_was : darts_in ns ≡ [] → rs ≡ bs
  as_was e = ext_get_or (begun 0) rs bs a.riders_long (λ r l. bare r (elim (cases_Option (note_at ns r))
      [ inl is ↦ is | inr (d, is) ↦ absurd (false≢true (sym (ap (is_among d) e) ∙ noted_among ns r d is)) ]))

  -- A rider whose noted dart ends where nothing is settled still runs.
  pub still_runs : (d : ℕ) → is_among d (darts_in ns) ≡ true → V (end_of g d) ≡ false
      → (r : ℕ) × (r < length rs) × ((rider_at rs r).stop ≡ None)
  still_runs d m off = search (rules, noted_where)

  -- All ends settled: the riders are those after the step.
  pub closed_is : AllNoted bs ns → ((d : ℕ) → is_among d (darts_in ns) ≡ true → V (end_of g d) ≡ true)
      → rs ≡ map (ride g stood ds) bs
  closed_is all on = ext_get_or (begun 0) rs (map (ride g stood ds) bs)
      (a.riders_long ∙ sym (length-map bs (ride g stood ds)))
      (λ r l. search (rules, get_or-map, cases_Option (rider_at bs r).stop, noted_among, cases_Option (note_at ns r)))

  -- A settling of v tells the riders that come there, by where somebody had stood when the instant began.
  pub told_shown : (W : ℕ → Bool) (v : ℕ) (now : ℕ → Bool) → ((u : ℕ) → u ≢ v → W u ≡ V u) → W v ≡ true → V v ≡ false
      → now v ≡ stood v → AreShown g stood ds W bs (all_told g now ds v rs ns) ns
  told_shown W v now kept on off same = search (rules, told_long, told_place, eq-eqb, ne_eqb)

-- A new instant.
pub none_shown : (g : Terrain) (stood : ℕ → Bool) (ds : List ℕ) (V : ℕ → Bool) (bs : List Moving) (k : ℕ)
    → length bs ≡ k → AreShown g stood ds V bs bs (replicate k None)
none_shown g stood ds V bs k e =
    let none : (r : ℕ) → note_at (replicate k None) r ≡ None = λ r. grind (arith, common_steps, cases_lt r k) in
    search (rules, length-replicate, none)
