-- The states that events reach on a mesh: what is noted, and how riders stand.
use Rattle.std.proofs.Common.{rules, ◌≡◌, ℕ, zero, suc, ◌<◌, true, false, List, [], ◌∷◌, ◌++◌, length, None, sym, ap}
use Rattle.std.proofs.{Common.◌∙◌, Common.refl, Common.arith, lemmas.Option.none-some, lemmas.Bool.false_from_ne_true}
use Rattle.def_mesh.specs.{Faces.Faces, Darts.darts, Manifold.IsManifold, Vertices.vertex_count, Components.start_darts}
use Rattle.def_cut.specs.Events.{EventState, darts_in, rider_at, note_at, may_ride, after_event, Event, May, Leads}
use Rattle.def_cut.specs.{Events.rides_in, Events.IsMotionOf, declared.moving.Moving.Moving, Traced.terrain_of}
use Rattle.def_cut.specs.Motion.{Terrain, ridden, is_among, start}
use Rattle.motion_laws.proofs.Order.{IsWithin, reached, rode, since, steps_few, within}
use Rattle.motion_laws.proofs.Shown.{apart_later, runs_ridden, bare, waits_runs}
use Rattle.{motion_laws.proofs.Among.AreApart, motion_laws.proofs.Marks.noted_where, site_laws.proofs.Sites.course}
use Rattle.{qm_trace.proofs.Counting.begun_low, qm_trace.proofs.Counting.rides_low}

-- One event more.
pub leads_more : (g : Terrain) (a x : EventState) (es : List Event) (e : Event) → Leads g a es x → May g x e
    → Leads g a (es ++ e ∷ []) (after_event g x e)
leads_more g a x [] e l may = (rw l may, ap (λ (y : EventState). after_event g y e) l)
leads_more g a x (f ∷ es) e l may = (l.0, leads_more g (after_event g a f) x es e l.1 may)

one_rider_on : (rs : List Moving) → AreApart (ridden rs) → (i j : ℕ) → i < length rs → j < length rs
    → (rider_at rs i).stop ≡ None → (rider_at rs j).stop ≡ None → (rider_at rs i).dart ≡ (rider_at rs j).dart → i ≡ j
one_rider_on [] a i j li lj ri rj e = absurd (omega arith)
one_rider_on (q ∷ rs) a zero zero li lj ri rj e = refl
one_rider_on (q ∷ rs) a zero (suc j) li lj ri rj e = absurd (search (rules, runs_ridden))
one_rider_on (q ∷ rs) a (suc i) zero li lj ri rj e = absurd (search (rules, runs_ridden))
one_rider_on (q ∷ rs) a (suc i) (suc j) li lj ri rj e = ap suc
    (one_rider_on rs (apart_later q.stop q.dart (ridden rs) a) i j (omega arith) (omega arith) ri rj e)

-- A state to which events lead stands within an instant.
pub record Reached (faces : Faces) (x : EventState) : Type 0 where
  pub mesh : IsManifold faces
  pub led : IsMotionOf faces x
  pub at : IsWithin (terrain_of faces) (start_darts faces) (vertex_count faces) x (rides_in led.0)
  pub open at use {instant, shown}

pub reached_by : {faces : Faces} → IsManifold faces → (x : EventState) → IsMotionOf faces x → Reached faces x
reached_by {faces} m x z = record { mesh = m; led = z; at = within (course faces m) z.0 x z.1 }

-- So does the state after one more.
pub more_led : {faces : Faces} {x : EventState} → Reached faces x → (e : Event) → May (terrain_of faces) x e
    → IsMotionOf faces (after_event (terrain_of faces) x e)
more_led {faces} {x} now e may = (now.led.0 ++ e ∷ [], leads_more (terrain_of faces) _ x _ e now.led.1 may)

pub as_long : {faces : Faces} {x : EventState} → Reached faces x → length x.noted ≡ length x.riders
as_long now = now.shown.riders.notes_long ∙ sym now.shown.riders.riders_long

-- A rider that may ride.
pub record MayRide (faces : Faces) (x : EventState) (r : ℕ) : Type 0 where
  pub now : Reached faces x
  pub low : r < length x.riders
  pub may : may_ride x r ≡ true

module _ {faces : Faces} {x : EventState} {r : ℕ} (k : MayRide faces x r) where
  open k use {now, low, may, now.{mesh, at, shown}}

  abbrev rider : Moving
  rider = rider_at x.riders r

  pub ride_fresh : note_at x.noted r ≡ None
  ride_fresh = (rode at r low may).0

  pub ride_dart : (rider_at x.riders r).dart < darts faces
  ride_dart = (reached at).low rider.dart (rode at r low may).1

  -- The rider is as it was when the instant began.
  as_begun : rider ≡ rider_at (since at).riders r
  as_begun = bare shown.riders r ride_fresh

  pub ride_few : (rider_at x.riders r).rides < vertex_count faces
  ride_few = omega (
    arith,
    ap (λ (q : Moving). q.rides) as_begun,
    rides_low (terrain_of faces) (start (terrain_of faces) _) (begun_low (start_darts faces)) now.instant r,
    steps_few (course _ mesh) now.instant rider.dart (rode at r low may).1,
  )

  pub ride_runs : (rider_at x.riders r).stop ≡ None
  ride_runs = (waits_runs rider.stop (note_at x.noted r) may).0

  -- Nobody else has its dart noted.
  pub ride_alone : is_among (rider_at x.riders r).dart (darts_in x.noted) ≡ false
  ride_alone = false_from_ne_true _ (λ a.
      let (q, l, n) = noted_where x.noted rider.dart a in
      let (runs, dart) = shown.riders.noted q rider.dart n in
      let same : r ≡ q = one_rider_on (since at).riders (reached at).apart r q
      (omega (arith, low, shown.riders.riders_long)) (omega (arith, l, shown.riders.notes_long))
      (rw as_begun at ride_runs) runs (sym (ap (λ (b : Moving). b.dart) as_begun) ∙ dart) in
      none-some rider.dart (sym ride_fresh ∙ (ap (note_at x.noted) same ∙ n)))
