-- Which events are possible, and how many can still happen.
use Rattle.std.proofs.Common.{rules, ◌≡◌, ℕ, zero, suc, ◌+◌, ◌<◌, ◌≤◌, Bool, true, false, cond, List, ◌∷◌}
use Rattle.std.proofs.Common.{length, set, map, replicate, Option, Some, None, sym, ap, ◌∙◌, refl, arith, [], eqb}
use Rattle.std.proofs.{Common.◌||◌, Common.get_or, lemmas.Bool.false≢true, Math.Bool.or-false}
use Rattle.std.proofs.lemmas.List.{length-map, length-replicate, length-set, ext_get_or, get_or_default}
use Rattle.def_mesh.specs.{Faces.Faces, Components.start_darts, Manifold.IsManifold, Vertices.vertex_count}
use Rattle.def_mesh.specs.Darts.{darts, to_of, from_of}
use Rattle.def_cut.specs.Events.{after_ride_of, after_settling, all_told, closed, darts_in, decided_at}
use Rattle.def_cut.specs.Events.{are_ends_settled, leads_to, rider_at, ridden_once_more, rides_in}
use Rattle.def_cut.specs.Events.{Event, EventState, Leads, is_waiting, may_settle, note_at, May}
use Rattle.def_cut.specs.Events.{NobodyRuns, marked_from, waiting, may_ride, after_event}
use Rattle.def_cut.specs.{FullCut.is_on, Traced.terrain_of, declared.moving.Moving.Moving, declared.graph.Rider.Rider}
use Rattle.def_cut.specs.Motion.{begun, Terrain, is_among}
use Rattle.def_cut.specs.Views.{MotionView, IsMotionOn, with_state}
use Rattle.motion_laws.proofs.Marks.{no_darts, from_marks, marked_long, none_on}
use Rattle.motion_laws.proofs.{Shown.still_runs, Order.parts, Order.some_end, Onward.later_long}
use Rattle.qm_trace.proofs.Reaching.{MayRide, Reached, as_long, more_led, reached_by, ride_runs}
use Rattle.qm_trace.proofs.Counting.{waiting_is, all_run, all_wait, none_untold, tally_set}
use Rattle.qm_trace.proofs.Noting.{settle_low, MaySettle, Settling}
use Rattle.qm_trace.specs.Left.{left_in, left_of, rides_of, unset}
use Rattle.qm_trace.specs.{declared.telling.Riders.Riders, Motions.AreCounted, Motions.IsKept, Tables.IsSite}
use Rattle.qm_trace.specs.{declared.notes.Notes.Notes, declared.ground.Site.Site}
use Rattle.{def_cut.specs.Events.Event.Ride, def_cut.specs.Events.Event.Settle, site_laws.proofs.Laws.order_law}
use Rattle.{site_laws.proofs.Sites.started, std.specs.List.list_any, mesh_laws.proofs.Flood.all_below}

module _ {faces : Faces} {x : EventState} (now : Reached faces x) where
  -- Where nobody waits, and each noted dart ends at a settled vertex, nobody runs.
  pub over_where : ((r : ℕ) → r < length x.riders → is_waiting (rider_at x.riders r).stop (note_at x.noted r) ≡ false)
      → ((d : ℕ) → is_among d (darts_in x.noted) ≡ true → is_on x.settled (to_of faces d) ≡ true) → NobodyRuns x
  over_where none on r l runs = by_event ((order_law faces now.mesh now.led.0 x now.led.1).possible r l runs)
    where
      by_event : (e : Event) × May (terrain_of faces) x e → ⊥
      by_event (Ride q, may) = false≢true (sym (none q may.0) ∙ may.1)
      by_event (Settle v, may) =
          let (d, m, e) = some_end now.at v may in
          false≢true (sym (parts now.at v may).2 ∙ (ap (is_on x.settled) (sym e) ∙ on d m))

-- Where a vertex may be settled, somebody runs.
pub settle_not_over : {faces : Faces} {x : EventState} {v : ℕ} → MaySettle faces x v → NobodyRuns x → ⊥
settle_not_over {faces} {x} {v} k none =
    let (d, m, e) = some_end k.now.at v k.may in
    search (rules, still_runs k.now.shown.riders d m (ap (is_on x.settled) e ∙ (parts k.now.at v k.may).2))

-- A ride is one ride more.
rides_set : (rs : List Moving) (r : ℕ) → r < length rs → rides_of (set rs r (ridden_once_more (rider_at rs r)))
    ≡ suc (rides_of rs)
rides_set [] r low = absurd (omega (arith, low))
rides_set (q ∷ rs) zero low = omega arith
rides_set (q ∷ rs) (suc r) low = let rest = rides_set rs r (omega (arith, low)) in omega (arith, rest)

-- Telling is none.
rides_told : (g : Terrain) (stood : ℕ → Bool) (ds : List ℕ) (v : ℕ) (rs : List Moving) (ns : List (Option ℕ))
    → length ns ≡ length rs → rides_of (all_told g stood ds v rs ns) ≡ rides_of rs
rides_told g stood ds v [] ns same = refl
rides_told g stood ds v (q ∷ rs) [] same = absurd (omega (arith, same))
rides_told g stood ds v (q ∷ rs) (n ∷ ns) same =
    search (rules, rides_told g stood ds v rs ns (omega (arith, same)))

no_rides : (starts : List ℕ) → rides_of (map begun starts) ≡ 0
no_rides [] = refl
no_rides (d ∷ starts) = omega (arith, no_rides starts)

-- Marks that are not set.
unset_few : (marks : List Bool) → unset marks ≤ length marks
unset_few [] = omega arith
unset_few (t ∷ marks) = grind (arith, unset_few marks)

unset_set : (marks : List Bool) (v : ℕ) → v < length marks → is_on marks v ≡ false → suc (unset (set marks v true))
    ≡ unset marks
unset_set [] v low off = absurd (omega (arith, low))
unset_set (t ∷ marks) zero low off = grind arith
unset_set (t ∷ marks) (suc v) low off = let rest = unset_set marks v (omega (arith, low)) off in grind arith

left_few : (ds : List ℕ) (marks : List Bool) → left_in ds marks ≤ suc (length marks)
left_few [] marks = omega arith
left_few (d ∷ ds) marks = omega (arith, unset_few marks)

module _ {faces : Faces} {x : EventState} (now : Reached faces x) where
  -- There are as many riders as starts.
  pub riders_long : length x.riders ≡ length (start_darts faces)
  riders_long = search (rules, later_long, length-map)

  -- A settling is no ride.
  decided_rides : (v : ℕ) → rides_of (decided_at (terrain_of faces) x v).riders ≡ rides_of x.riders
  decided_rides v = rides_told (terrain_of faces) (is_on x.stood) (darts_in x.noted) v x.riders x.noted (as_long now)

  settle_rides : (v : ℕ) → rides_of (after_settling (terrain_of faces) x v).riders ≡ rides_of x.riders
  settle_rides v = search (rules, decided_rides v)

-- The riders have made one ride more for each of these rides.
rides_from : {faces : Faces} (es : List Event) (x y : EventState) → Reached faces x → Leads (terrain_of faces) x es y
    → rides_of y.riders ≡ rides_of x.riders + rides_in es
rides_from [] x y now led = omega (arith, ap (λ (s : EventState). rides_of s.riders) led)
rides_from (Ride r ∷ es) x y now led =
    search (rules, rides_set, rides_from es _ y (reached_by now.mesh _ (more_led now (Ride r) led.0)) led.1)
rides_from (Settle v ∷ es) x y now led =
    search (rules, settle_rides, rides_from es _ y (reached_by now.mesh _ (more_led now (Settle v) led.0)) led.1)

-- They are no more than the darts.
rides_few : {faces : Faces} {x : EventState} → Reached faces x → rides_of x.riders ≤ darts faces
rides_few {faces} {x} now =
    let made = rides_from now.led.0 _ x (reached_by now.mesh _ ([], refl)) now.led.1 in
    let bound = (order_law faces now.mesh now.led.0 x now.led.1).bounded in
    omega (arith, made, no_rides (start_darts faces), bound)

pub ride_less : {faces : Faces} {x : EventState} {r : ℕ} → MayRide faces x r
    → left_of faces (after_ride_of (terrain_of faces) x r) < left_of faces x
ride_less {faces} {x} {r} k = grind (
  arith,
  rides_set x.riders r k.low,
  rides_few (reached_by k.now.mesh
      (after_ride_of (terrain_of faces) x r) (more_led k.now (Ride r) (k.low, k.may))),
  left_few (darts_in (after_ride_of (terrain_of faces) x r).noted) x.settled,
)

by_noted : (faces : Faces) (v : ℕ) (ds : List ℕ) (settled : List Bool)
    → list_any (leads_to (terrain_of faces) v) ds ≡ true → left_in ds settled ≡ suc (unset settled)
by_noted faces v [] settled any = absurd (false≢true any)
by_noted faces v (d ∷ ds) settled any = refl

pub settle_less : {faces : Faces} {x : EventState} {v : ℕ} → MaySettle faces x v
    → left_of faces (after_settling (terrain_of faces) x v) < left_of faces x
settle_less {faces} {x} {v} may =
    by_test (are_ends_settled (terrain_of faces) (set x.settled v true) (darts_in x.noted))
  where
    here : left_in (darts_in x.noted) x.settled ≡ suc (unset x.settled)
    here = by_noted faces v (darts_in x.noted) x.settled (parts may.now.at v may.may).1

    by_test : (t : Bool) → left_of faces (cond t (closed (decided_at (terrain_of faces) x v))
        (decided_at (terrain_of faces) x v)) < left_of faces x
    by_test true = simp (decided_rides may.now v, length-replicate, length-set, no_darts, here) (omega arith)
    by_test false = simp (
      decided_rides may.now v,
      length-set,
      here,
      by_noted faces v (darts_in x.noted) (set x.settled v true) (parts may.now.at v may.may).1,
    ) (omega (arith, unset_set x.settled v (omega (arith, settle_low may)) (parts may.now.at v may.may).2))

-- What the calls of a motion make of its tables.

-- A motion with this state.
abbrev pub made : (starts : List ℕ) (state : EventState) → MotionView
made starts state = record { state = state; starts = starts }

-- The first state.
pub first_stood : {faces : Faces} → IsManifold faces → {nowhere stood : List Bool} {starts : List ℕ}
    → nowhere ≡ replicate (vertex_count faces) false → length stood ≡ length nowhere → starts ≡ start_darts faces
    → ((v : ℕ) → is_on stood v ≡ (is_on nowhere v || list_any (λ d. eqb (from_of faces d) v) starts))
    → stood ≡ marked_from (terrain_of faces) (start_darts faces) (replicate (vertex_count faces) false)
first_stood {faces} m {nowhere} {stood} {starts} is long same each =
    let nobody = replicate (vertex_count faces) false in
    ext_get_or _ _ _ (search (rules, marked_long)) (λ v l. each v ∙ rw (
      is,
      same,
      from_marks (terrain_of faces) (start_darts faces) nobody v (search (rules, all_below, started, length-replicate)),
      none_on _ v,
    ) (sym (or-false _)))

pub first_counted : {riders : Riders} {noted : List (Option ℕ)} (starts : List ℕ) → riders.list.items ≡ map begun starts
    → riders.running ≡ length starts → riders.untold ≡ 0 → noted ≡ replicate (length starts) None
    → AreCounted riders noted
first_counted {riders} {noted} starts list run untold is =
    search (rules, length-replicate, length-map, all_run, none_untold)

pub first_waits : (starts : List ℕ) → length starts ≡ waiting (map begun starts) (replicate (length starts) None)
first_waits [] = refl
first_waits (d ∷ starts) = ap suc (first_waits starts)

-- At the end of an instant all who run wait again.
module _ {riders : Riders} {noted new : List (Option ℕ)} (k : AreCounted riders noted)
    (is : new ≡ replicate (length noted) None) where
  pub waits_again : riders.running ≡ waiting riders.list.items new
  waits_again = search (rules, all_wait)

-- A ride of the rider that was read.
module _ {faces : Faces} {x : EventState} {r : ℕ} (k : MayRide faces x r) {read : Moving}
    (same : read ≡ rider_at x.riders r) {noted : List (Option ℕ)} (is : noted ≡ set x.noted r (Some read.dart)) where
  runs : read.stop ≡ None
  runs = rw same (ride_runs k)

  -- As many run, one more is untold, and one less waits.
  pub rode_waits : waiting (set x.riders r (ridden_once_more read)) noted + 1 ≡ waiting x.riders x.noted
  rode_waits = search (rules, tally_set, waiting_is)

  pub rode_counted : {riders new : Riders} → AreCounted riders x.noted → riders.list.items ≡ x.riders
      → new.list.items ≡ set x.riders r (ridden_once_more read) → new.running ≡ riders.running
      → new.untold ≡ riders.untold + 1 → AreCounted new noted
  rode_counted counted old list run more = search (rules, tally_set)

-- The state of a motion.
pub reached_now : {faces : Faces} → IsManifold faces → {motion seen : MotionView} → motion ≡ seen
    → IsMotionOn faces seen → Reached faces motion.state
reached_now m is on = rw is (reached_by m _ on.reached)

-- A rider that may ride.
pub rides : {faces : Faces} → IsManifold faces → {motion seen : MotionView} → motion ≡ seen → IsMotionOn faces seen
    → (r : ℕ) → r < length seen.starts → may_ride seen.state r ≡ true → MayRide faces motion.state r
rides m is on r low may = search (rules, reached_by m _ on.reached, riders_long (reached_by m _ on.reached))

-- A motion after an event.
pub event_on : {faces : Faces} → IsManifold faces → {motion : MotionView} → IsMotionOn faces motion → (e : Event)
    → May (terrain_of faces) motion.state e → {new : MotionView}
    → new ≡ with_state motion (after_event (terrain_of faces) motion.state e) → IsMotionOn faces new
event_on m on e may is = search (rules, more_led (reached_by m _ on.reached) e may)

-- Such a rider, where it was read.
pub as_read : {faces : Faces} {x : EventState} {r : ℕ} {read : Moving} → MayRide faces x r
    → read ≡ get_or x.riders r read → read ≡ rider_at x.riders r
as_read {faces} {x} {r} {read} k e = e ∙ get_or_default x.riders r read (begun 0) k.low

-- A vertex that may be settled.
pub settles : {faces : Faces} → IsManifold faces → {motion seen : MotionView} → motion ≡ seen → IsMotionOn faces seen
    → (v : ℕ) → may_settle (terrain_of faces) seen.state v ≡ true → MaySettle faces motion.state v
settles m is on v may = rw is (record { now = reached_by m _ on.reached; may = may })

-- A vertex that is settled, where the mark of those who have stood was read, and by it what is known of the vertex.
pub settling : {faces : Faces} → IsManifold faces → {motion seen : MotionView} → motion ≡ seen → IsMotionOn faces seen
    → {v : ℕ} → may_settle (terrain_of faces) seen.state v ≡ true → {riders : Riders} {notes : Notes} {waits room : ℕ}
    {starts : List ℕ} {told_now : List Rider}
    → IsKept riders notes waits motion.state.covered starts told_now room → notes.noted.items ≡ motion.state.noted
    → {site : Site} {read : Bool} → read ≡ get_or motion.state.stood v read → IsSite faces read v site
    → Settling faces motion.state v notes site
settling m is on {v} may kept noted e at = let k = settles m is on v may in search (rules, get_or_default, settle_low k)
