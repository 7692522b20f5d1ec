-- Notes that are made, and taken back.
use Rattle.std.proofs.Common.{rules, ◌≡◌, ◌≢◌, ℕ, suc, ◌+◌, ◌<◌, ◌≤◌, Bool, true, false, cond, eqb, List, ◌∷◌, ◌++◌}
use Rattle.std.proofs.Common.{length, get_or, set, take, replicate, Option, Some, None, sym, subst, ap, ◌∙◌, refl, inl}
use Rattle.std.proofs.Common.{inr, arith, [], not}
use Rattle.std.proofs.lemmas.{Bool.eq-eqb, Bool.false≢true, Bool.false_from_ne_true}
use Rattle.std.proofs.lemmas.{Bool.eqb-true, List.get_or-set_same, List.get_or-set_other, List.length-set}
use Rattle.std.proofs.lemmas.{List.length-replicate, List.get_or_default, List.ext_get_or}
use Rattle.std.proofs.lemmas.Option.{none-some, same_Some}
use Rattle.def_mesh.specs.{Faces.Faces, Darts.darts, Darts.to_of, Darts.from_of, Darts.next_of, Darts.prev_of}
use Rattle.def_mesh.specs.{Vertices.fan_of, Vertices.vertex_count, Kinds.is_inner, Kinds.is_singular}
use Rattle.def_cut.specs.Motion.{is_among, State, ridden, stop_of, or_else, straight, begun, step, Terrain}
use Rattle.def_cut.specs.Events.{darts_in, note_at, EventState, waiting, rider_at, leads_to, may_settle}
use Rattle.def_cut.specs.Events.{decided_at, are_ends_settled, after_settling, ridden_once_more}
use Rattle.def_cut.specs.{FullCut.is_on, Traced.terrain_of}
use Rattle.motion_laws.proofs.Marks.{among_append, among_at, apart_append, apart_few, no_darts, noted_among}
use Rattle.motion_laws.proofs.Marks.{noted_more, noted_short, noted_where}
use Rattle.motion_laws.proofs.Order.{all_ridden, ends_then, parts, reached, since, some_end, stood_then, told_riders}
use Rattle.motion_laws.proofs.Order.{v_low}
use Rattle.motion_laws.proofs.{Among.among_cases, Among.cases_Option, Among.any_at, Among.any_where, Shown.noted_rides}
use Rattle.motion_laws.proofs.{Shown.told_long, Shown.told_place, Steps.is_next, Steps.stands}
use Rattle.qm_trace.specs.{declared.notes.Notes.Notes, Motions.AreNotes, Motions.CanTell, Motions.told_by}
use Rattle.qm_trace.specs.{Motions.AreCounted, Tables.AreEachOnce, Tables.IsSite, Tables.stop_by, Tables.stop_here}
use Rattle.qm_trace.specs.{declared.ground.Site.Site, declared.telling.Riders.Riders}
use Rattle.qm_trace.proofs.{Tellings.any_snoc, Tellings.once, Tellings.set_more, Reaching.Reached}
use Rattle.qm_trace.proofs.{Reaching.as_long, Counting.untold_is, Counting.waiting_told, Instants.stop_same}
use Rattle.mesh_laws.proofs.Chains.{next_of-prev_of, next_of_low, prev_of-next_of}
use Rattle.{std.specs.Vec.vec_capacity, std.specs.List.list_any, sum_laws.proofs.Tests.same_test}
use Rattle.{feature_laws.proofs.Breaks.from_fan, feature_laws.proofs.Breaks.in_fan, site_laws.proofs.Sites.terrain}

pub all_same : {A : Type 0} (z : A) (xs : List A) → ((i : ℕ) → get_or xs i z ≡ z) → xs ≡ replicate (length xs) z
all_same z [] each = refl
all_same z (x ∷ xs) each = ap (λ y. y ∷ xs) (each 0) ∙ ap (λ ys. z ∷ ys) (all_same z xs (λ i. each (suc i)))

-- There is room in the queue for a rider without a note.
pub has_room : (notes : Notes) (r : ℕ) → AreNotes notes → r < length notes.noted.items → note_at notes.noted.items r
    ≡ None → length notes.queue.items < vec_capacity notes.queue
has_room notes r are low fresh = omega (
  arith,
  apart_few (length notes.noted.items) (r ∷ notes.queue.items) (
    false_from_ne_true _ (λ a. let d = are.queue_is r a in none-some d.0 (sym fresh ∙ d.1)),
    are.queue_apart,
  ) (λ q a. search (rules, noted_short)),
)

-- One note more.
pub one_note : (notes new : Notes) (r d : ℕ) → AreNotes notes → r < length notes.noted.items
    → d < length notes.taken.items → note_at notes.noted.items r ≡ None → is_among d (darts_in notes.noted.items)
    ≡ false → new.noted.items ≡ set notes.noted.items r (Some d) → new.taken.items ≡ set notes.taken.items d true
    → new.places.items ≡ set notes.places.items d r → new.queue.items ≡ notes.queue.items ++ r ∷ []
    → vec_capacity notes.queue ≤ vec_capacity new.queue → AreNotes new
one_note notes new r d are low d_low fresh alone is_noted is_taken is_places is_queue room = record {
  places_long = search rules;
  taken_is = λ e. search (rules, noted_more);
  slot = λ q e n. grind (
    arith,
    get_or-set_same notes.noted.items r (Some d) None low,
    get_or-set_other notes.noted.items r q (Some d) None,
    get_or-set_same notes.places.items d r 0,
    get_or-set_other notes.places.items d e r 0,
    noted_among notes.noted.items q e,
  );
  queue_has = search (rules, any_snoc);
  queue_is = λ q a. rw is_noted (elim (among_append q notes.queue.items (r ∷ []) (rw is_queue at a)) [
    | inl b ↦ let (e, n) = are.queue_is q b in
        (e, get_or-set_other notes.noted.items r q (Some d) None (differs q b) ∙ n)
    | inr b ↦ elim (among_cases q r [] b)
        [ inl s ↦ (d, rw s (get_or-set_same notes.noted.items r (Some d) None low)) | inr c ↦ absurd (false≢true c) ]
  ]);
  queue_apart = search (rules, apart_append);
  room = omega (arith, ap length is_noted, length-set notes.noted.items r (Some d));
}
  where
    -- Who is in the queue is another rider, since r had no note.
    differs : (q : ℕ) → is_among q notes.queue.items ≡ true → q ≢ r
    differs q a s = search rules

-- No notes.
pub are_none : (notes : Notes) (ns : List (Option ℕ)) → notes.noted.items ≡ replicate (length ns) None
    → ((d : ℕ) → is_on notes.taken.items d ≡ false) → length notes.places.items ≡ length notes.taken.items
    → notes.queue.items ≡ [] → length ns ≤ vec_capacity notes.queue → AreNotes notes
are_none notes ns is off long empty room = record {
  places_long = long;
  taken_is = λ d. off d ∙ sym (ap (is_among d) (ap darts_in is ∙ no_darts (length ns)));
  slot = λ r d n. absurd (none d (noted_among notes.noted.items r d n));
  queue_has = λ r d n. absurd (none d (noted_among notes.noted.items r d n));
  queue_is = λ r a. absurd (false≢true (sym (ap (is_among r) empty) ∙ a));
  queue_apart = subst AreEachOnce (sym empty) tt;
  room = search (rules, length-replicate);
}
  where
    none : (d : ℕ) → is_among d (darts_in notes.noted.items) ≡ true → ⊥
    none d a = false≢true (sym (ap (is_among d) (ap darts_in is ∙ no_darts (length ns))) ∙ a)

-- The rider at place i of the queue has a note, which is taken back after those before it.
pub record NoteBack (faces : Faces) (queue : List ℕ) (i : ℕ) (first noted : List (Option ℕ)) : Type 0 where
  pub apart : AreEachOnce queue
  pub place : i < length queue
  pub before : (q : ℕ) → note_at noted q ≡ cond (is_among q (take i queue)) None (note_at first q)
  pub note : (d : ℕ) × (note_at first (get_or queue i 0) ≡ Some d) × (d < darts faces)

pub note_back : {faces : Faces} {queue : List ℕ} {i : ℕ} {first noted : List (Option ℕ)} → AreEachOnce queue
    → i < length queue → ((q : ℕ) → note_at noted q ≡ cond (is_among q (take i queue)) None (note_at first q))
    → ((r : ℕ) → is_among r queue ≡ true → (d : ℕ) × (note_at first r ≡ Some d) × (d < darts faces))
    → NoteBack faces queue i first noted
note_back {faces} {queue} {i} apart place before notes = search (rules, among_at)

module _ {faces : Faces} {queue : List ℕ} {i : ℕ} {first noted : List (Option ℕ)}
    (back : NoteBack faces queue i first noted) where
  open back use {apart, place, before, note}

  abbrev r : ℕ
  r = get_or queue i 0

  abbrev pub d : ℕ
  d = note.0

  still_noted : note_at noted r ≡ Some d
  still_noted = before r ∙ rw (once queue i apart place) note.1

  pub back_short : get_or queue i 0 < length noted
  back_short = noted_short noted r d still_noted

  -- The note, where it was read.
  pub note_read : {read : Option ℕ} → read ≡ get_or noted (get_or queue i 0) read → read ≡ Some note.0
  note_read {read} e = e ∙ (get_or_default noted r read None back_short ∙ still_noted)

  pub dart_read : {read : Option ℕ} {dart : ℕ} → read ≡ get_or noted (get_or queue i 0) read → read ≡ Some dart
      → dart ≡ note.0
  dart_read e is = same_Some _ _ (sym is ∙ note_read e)

  pub taken_back : (q : ℕ) → note_at (set noted (get_or queue i 0) None) q
      ≡ cond (is_among q (take (i + 1) queue)) None (note_at first q)
  taken_back q = set_more None queue i noted first (λ r. None) None place back_short refl q (before q)

  -- A mark that stays belongs to another note.
  pub marks_back : (taken : List Bool) → note.0 < length taken
      → ((e : ℕ) → is_on taken e ≡ true → (q : ℕ) × (note_at noted q ≡ Some e)) → (e : ℕ)
      → is_on (set taken note.0 false) e ≡ true → (q : ℕ) × (note_at (set noted (get_or queue i 0) None) q ≡ Some e)
  marks_back taken d_low old e on = search rules

  pub ends_back : (settled : List Bool) {v : ℕ} → v ≡ to_of faces note.0 → v < length settled
      → ((u : ℕ) → is_on settled u ≡ true → (q : ℕ) × (e : ℕ) × (note_at noted q ≡ Some e) × (to_of faces e ≡ u))
      → (u : ℕ) → is_on (set settled v false) u ≡ true
      → (q : ℕ) × (e : ℕ) × (note_at (set noted (get_or queue i 0) None) q ≡ Some e) × (to_of faces e ≡ u)
  ends_back settled {v} v_is v_low old u on =
      let differ : u ≢ v = search rules in
      let q = old u (sym (get_or-set_other settled v u false false differ) ∙ on) in
      (q.0, q.1, (search rules), q.3)

-- A settling: which riders it tells, how, and when the instant ends.

-- Some noted dart ends at v, by the marks at the darts before those that leave v.
pub end_is : (faces : Faces) (v : ℕ) (ds : List ℕ) (taken : List Bool) → ((d : ℕ) → is_on taken d ≡ is_among d ds)
    → ((d : ℕ) → is_among d ds ≡ true → d < darts faces)
    → list_any (λ e. is_on taken (prev_of e)) (fan_of faces v) ≡ list_any (leads_to (terrain_of faces) v) ds
end_is faces v ds taken is low = same_test _ _ (λ a. let (e, n, t) = any_where _ _ a in
    any_at _ _ ds (sym (is (prev_of e)) ∙ t) (ap (λ x. eqb (from_of faces x) v) (next_of-prev_of e) ∙ eq-eqb _ _
    (from_fan _ v e n).1)) (λ a. let (d, n, t) = any_where _ ds a in
    any_at (λ e. is_on taken (prev_of e)) (next_of d) (fan_of faces v) (in_fan faces v (next_of d)
    (next_of_low faces d (low d n)) (eqb-true _ _ t)) (ap (is_on taken) (prev_of-next_of d) ∙ (is d ∙ n)))

-- A vertex that may be settled.
pub record MaySettle (faces : Faces) (x : EventState) (v : ℕ) : Type 0 where
  pub now : Reached faces x
  pub may : may_settle (terrain_of faces) x v ≡ true

module _ {faces : Faces} {x : EventState} {v : ℕ} (k : MaySettle faces x v) where
  open k use {now, may}

  pub settle_low : v < vertex_count faces
  settle_low = v_low now.at v may

  pub ends_now : (u : ℕ) → is_on (set x.settled v true) u ≡ true
      → (r : ℕ) × (d : ℕ) × (note_at x.noted r ≡ Some d) × (to_of faces d ≡ u)
  ends_now u on = let d = ends_then now.at v may u on in search (rules, noted_where)

-- A noted dart is one that is ridden in the instant.
pub noted_low_at : {faces : Faces} {x : EventState} → Reached faces x → (d : ℕ) → is_among d (darts_in x.noted) ≡ true
    → d < darts faces
noted_low_at now d n = (reached now.at).low d (noted_rides now.shown.riders d n)

-- A settling, with the notes of the state and what is known of the vertex.
pub record Settling (faces : Faces) (x : EventState) (v : ℕ) (notes : Notes) (site : Site) : Type 0 where
  pub k : MaySettle faces x v
  pub noted_is : notes.noted.items ≡ x.noted
  pub are : AreNotes notes
  pub taken_long : length notes.taken.items ≡ length x.covered
  pub at_v : IsSite faces (is_on x.stood v) v site

module _ {faces : Faces} {x : EventState} {v : ℕ} {notes : Notes} {site : Site}
    (settling : Settling faces x v notes site) where
  open settling use {k, noted_is, are, taken_long, at_v, k.{now, may, now.{mesh, at, shown}}}

  abbrev g : Terrain
  g = terrain_of faces

  abbrev s : State
  s = since at

  abbrev ds : List ℕ
  ds = ridden s.riders

  -- All noted darts are ridden in this instant, and no others.
  all_noted : darts_in x.noted ≡ ds
  all_noted = all_ridden at (parts at v may).0

  among_ridden : (d : ℕ) → is_among d (darts_in x.noted) ≡ true → is_among d ds ≡ true
  among_ridden d n = sym (ap (is_among d) all_noted) ∙ n

  then : is_on x.stood v ≡ s.stood v
  then = stood_then at (parts at v may).0 v (settle_low k) (parts at v may).2

  -- Why a rider that ends at v stops, by the tables, by the motion and by the events.
  stop_then : (d : ℕ) → is_among d (darts_in x.noted) ≡ true → to_of faces d ≡ v
      → stop_here faces site notes.taken.items d ≡ stop_of g s.stood ds d
  stop_then d n e =
      let by_site : stop_here faces site notes.taken.items d ≡ stop_by faces (not (is_inner faces (to_of faces d)))
      (is_singular faces (to_of faces d)) (is_on x.stood v) notes.taken.items d =
      rw (at_v.boundary, at_v.singular, at_v.stood_is, e) refl in
      by_site ∙ stop_same mesh (reached at) notes.taken.items (λ d. are.taken_is d ∙ ap (is_among d)
      (ap darts_in noted_is ∙ all_noted)) d (is_on x.stood v) (among_ridden d n) (then ∙ ap s.stood (sym e))

  -- Who goes on leaves its dart.
  leaves : (d : ℕ) → is_among d ds ≡ true → stop_of g s.stood ds d ≡ None → or_else (straight g d) d ≢ d
  leaves d n go same =
      let low = (reached at).low d n in
      let next = is_next g (terrain faces mesh) s.stood ds d (or_else (straight g d) d) low go refl in
      ((terrain faces mesh).half.corners_differ d low).0 (ap (from_of faces) (sym same) ∙ next.at)

  -- A rider with a note whose end is not settled runs along its noted dart.
  still : (r d : ℕ) → note_at x.noted r ≡ Some d → to_of faces d ≡ v → ((rider_at x.riders r).stop ≡ None)
      × ((rider_at x.riders r).dart ≡ d)
  still r d n e =
      let (runs, dart) = shown.riders.noted r d n in
      let as_ridden : rider_at x.riders r ≡ ridden_once_more (rider_at s.riders r) =
      shown.riders.shows r ∙ rw (n, e, (parts at v may).2) refl in
      rw as_ridden (runs, sym dart)

  pub can_tell : (riders : Riders) → riders.list.items ≡ x.riders → CanTell faces site v notes riders
  can_tell riders is = record {
    taken_long = taken_long ∙ shown.covered_long;
    low = λ d n. noted_low_at now d (noted d n);
    untold = λ r d n e. let t = still r d (sym (ap (λ ns. note_at ns r) noted_is) ∙ n) e in rw is t;
    onward = λ d n e go. leaves d (among_ridden d (noted d n)) (sym (stop_then d (noted d n) e) ∙ go);
  }
    where
      noted : (d : ℕ) → is_among d (darts_in notes.noted.items) ≡ true → is_among d (darts_in x.noted) ≡ true
      noted d n = sym (ap (λ ns. is_among d (darts_in ns)) noted_is) ∙ n

  -- Somebody stands at v from now on.
  stands_then : set x.stood v true ≡ (decided_at g x v).stood
  stands_then = let (d, n, e) = some_end at v may in ap (set _ v) (sym (rw (then, all_noted)
      (ap (step g s).stood (sym e) ∙ stands g (terrain _ mesh) _ _ s (reached at) d (among_ridden d n))))

  -- The riders told so are those of the settling.
  module _ {new : Riders} (counted : AreCounted new x.noted) (told_so : (r : ℕ) → rider_at new.list.items r
      ≡ told_by faces site notes.taken.items v (note_at x.noted r) (rider_at x.riders r)) where
    riders_are : new.list.items ≡ (decided_at g x v).riders
    riders_are = ext_get_or (begun 0) new.list.items (decided_at g x v).riders (search (rules, told_long)) (λ r h. rw (
      told_so r,
      told_place g (is_on x.stood) (darts_in x.noted) v x.riders x.noted r (as_long now),
    ) (search (rules, cases_Option (note_at x.noted r), stop_then, all_noted, then, noted_among x.noted r)))

    pub still_wait : waiting x.riders x.noted ≡ waiting new.list.items x.noted
    still_wait = sym (rw riders_are (waiting_told g (is_on x.stood) (darts_in x.noted) v x.riders x.noted))

    -- The instant ends where nobody is untold.
    closes : are_ends_settled g (set x.settled v true) (darts_in x.noted) ≡ eqb new.untold 0
    closes = sym (rw (counted.untold, riders_are)
        (untold_is (told_riders at v may) (λ d n. leaves d (among_ridden d n))))

    -- The state, where the instant has ended and where it has not.
    pub settled_state : (over : Bool) → eqb new.untold 0 ≡ over → {noted : List (Option ℕ)} {settled : List Bool}
        → noted ≡ cond over (replicate (length x.noted) None) x.noted
        → settled ≡ cond over (replicate (length (set x.settled v true)) false) (set x.settled v true)
        → ◌≡◌ {A = EventState} (record {
          riders = new.list.items;
          stood = set x.stood v true;
          covered = x.covered;
          noted
              = noted;
          settled = settled;
        }) (after_settling (terrain_of faces) x v)
    settled_state true e n t = rw (closes, e, riders_are, stands_then, n, t) refl
    settled_state false e n t = rw (closes, e, riders_are, stands_then, n, t) refl
