-- The motion event by event: riders of one instant ride one by one, and then the vertices where they end are settled.
use Rattle.std.specs.Prelude.{◌≡◌, ℕ, suc, ◌+◌, ◌<◌, Bool, true, false, cond, not, ◌&&◌, ◌||◌}
use Rattle.std.specs.Prelude.{◌==◌, List, [], ◌∷◌, map, length, replicate, slice_set, slice_index_or, Option, Some}
use Rattle.std.specs.Prelude.{None}
use Rattle.std.specs.List.{list_any, list_all}
use Rattle.def_mesh.specs.Faces.{Faces}
use Rattle.def_mesh.specs.Vertices.{vertex_count}
use Rattle.def_mesh.specs.Components.{start_darts}
use Rattle.def_cut.specs.declared.graph.Stop.{Stop}
use Rattle.def_cut.specs.declared.moving.Moving.{Moving}
use Rattle.def_cut.specs.FullCut.{is_on}
use Rattle.def_cut.specs.Motion.{Terrain, end_of, straight, stop_of, arrives_at, or_else, begun}
use Rattle.def_cut.specs.Traced.{terrain_of}

-- The riders, a mark for each vertex where one has stood and for each dart whose edge is covered; and of the open
-- instant the dart that each rider has ridden, and a mark for each vertex that is settled.
pub record EventState : Type 0 where
  pub riders : List Moving
  pub stood : List Bool
  pub covered : List Bool
  pub noted : List (Option ℕ)
  pub settled : List Bool

-- The rider with number r, and the dart that is noted for it.
abbrev pub rider_at : (riders : List Moving) (r : ℕ) → Moving
rider_at riders r = slice_index_or riders r (begun 0)

abbrev pub note_at : (noted : List (Option ℕ)) (r : ℕ) → Option ℕ
note_at noted r = slice_index_or noted r None

-- A rider waits for its ride where it runs and no dart is noted for it.
abbrev pub is_waiting : (stop : Option Stop) (note : Option ℕ) → Bool
is_waiting (Some s) n = false
is_waiting None (Some d) = false
is_waiting None None = true

-- One more, where a test holds.
abbrev pub more_if : (test : Bool) (n : ℕ) → ℕ
more_if true n = suc n
more_if false n = n

-- How many riders wait.
abbrev pub waiting : (riders : List Moving) (noted : List (Option ℕ)) → ℕ
waiting [] noted = 0
waiting (r ∷ rs) [] = 0
waiting (r ∷ rs) (n ∷ ns) = more_if (is_waiting r.stop n) (waiting rs ns)

-- The noted darts, in order of their riders.
abbrev pub with_note : (note : Option ℕ) (later : List ℕ) → List ℕ
with_note None ds = ds
with_note (Some d) ds = d ∷ ds

abbrev pub darts_in : (noted : List (Option ℕ)) → List ℕ
darts_in [] = []
darts_in (n ∷ ns) = with_note n (darts_in ns)

-- Rider r may ride where it waits.
abbrev pub may_ride : (x : EventState) (r : ℕ) → Bool
may_ride x r = is_waiting (rider_at x.riders r).stop (note_at x.noted r)

-- The twin of a dart is marked too, where there is one.
abbrev pub mark_twin : (twin : Option ℕ) (marks : List Bool) → List Bool
mark_twin None marks = marks
mark_twin (Some t) marks = slice_set marks t true

-- A rider with one ride more.
abbrev pub ridden_once_more : (r : Moving) → Moving
ridden_once_more r = record { dart = r.dart; rides = r.rides + 1; stop = r.stop }

-- The state after a ride of r: the edge is covered, its rides grow by one, and the dart is noted.
abbrev pub after_ride_of : (g : Terrain) (x : EventState) (r : ℕ) → EventState
after_ride_of g x r = record {
  riders = slice_set x.riders r (ridden_once_more (rider_at x.riders r));
  stood = x.stood;
  covered = mark_twin (g.half.twin (rider_at x.riders r).dart) (slice_set x.covered (rider_at x.riders r).dart true);
  noted = slice_set x.noted r (Some (rider_at x.riders r).dart);
  settled = x.settled;
}

-- Dart d ends at v.
abbrev pub leads_to : (g : Terrain) (v d : ℕ) → Bool
leads_to g v d = end_of g d == v

-- Vertex v may be settled where nobody waits, some noted dart ends there, and it is not settled yet.
abbrev pub may_settle : (g : Terrain) (x : EventState) (v : ℕ) → Bool
may_settle g x v =
    (waiting x.riders x.noted == 0) && (list_any (leads_to g v) (darts_in x.noted) && not (is_on x.settled v))

-- A rider that is told its stop, or to go straight on.
abbrev pub told : (g : Terrain) (d : ℕ) (r : Moving) (stop : Option Stop) → Moving
told g d r (Some s) = record { dart = d; rides = r.rides; stop = Some s }
told g d r None = record { dart = or_else (straight g d) d; rides = r.rides; stop = None }

-- A rider after v is settled: it is told where its noted dart ends at v.
abbrev pub told_at : (g : Terrain) (stood : ℕ → Bool) (darts : List ℕ) (v : ℕ) (r : Moving) (note : Option ℕ) → Moving
told_at g stood darts v r None = r
told_at g stood darts v r (Some d) = cond (leads_to g v d) (told g d r (stop_of g stood darts d)) r

-- All riders after v is settled.
abbrev pub all_told : (g : Terrain) (stood : ℕ → Bool) (darts : List ℕ) (v : ℕ) (riders : List Moving)
    (noted : List (Option ℕ)) → List Moving
all_told g stood darts v [] noted = []
all_told g stood darts v (r ∷ rs) [] = []
all_told g stood darts v (r ∷ rs) (n ∷ ns) = told_at g stood darts v r n ∷ all_told g stood darts v rs ns

-- The state where v has been settled and the instant is still open.
abbrev pub decided_at : (g : Terrain) (x : EventState) (v : ℕ) → EventState
decided_at g x v = record {
  riders = all_told g (is_on x.stood) (darts_in x.noted) v x.riders x.noted;
  stood = slice_set x.stood v (is_on x.stood v || list_any (arrives_at g (darts_in x.noted) v) (darts_in x.noted));
  covered = x.covered;
  noted = x.noted;
  settled = slice_set x.settled v true;
}

-- All vertices where these darts end are settled.
abbrev pub are_ends_settled : (g : Terrain) (settled : List Bool) (darts : List ℕ) → Bool
are_ends_settled g settled darts = list_all (λ d. is_on settled (end_of g d)) darts

-- The end of an instant: no dart is noted and no vertex settled any more.
abbrev pub closed : (x : EventState) → EventState
closed x = record {
  riders = x.riders;
  stood = x.stood;
  covered = x.covered;
  noted = replicate (length x.noted) None;
  settled = replicate (length x.settled) false;
}

-- The same state, or the end of its instant where that has come.
abbrev pub if_closed : (g : Terrain) (x : EventState) → EventState
if_closed g x = cond (are_ends_settled g x.settled (darts_in x.noted)) (closed x) x

-- The state after v is settled.
abbrev pub after_settling : (g : Terrain) (x : EventState) (v : ℕ) → EventState
after_settling g x v = if_closed g (decided_at g x v)

-- The vertices that these darts leave are marked.
abbrev pub marked_from : (g : Terrain) (darts : List ℕ) (marks : List Bool) → List Bool
marked_from g [] marks = marks
marked_from g (d ∷ ds) marks = slice_set (marked_from g ds marks) (g.half.from d) true

-- The first event state over so many vertices.
abbrev pub first_state : (g : Terrain) (vertices : ℕ) (starts : List ℕ) → EventState
first_state g vertices starts = record {
  riders = map begun starts;
  stood = marked_from g starts (replicate vertices false);
  covered = replicate g.half.count false;
  noted = replicate (length starts) None;
  settled = replicate vertices false;
}

-- What may happen.
pub data Event : Type 0 where
  Ride : ℕ → Event
  Settle : ℕ → Event

-- An event is possible.
abbrev pub May : (g : Terrain) (x : EventState) (e : Event) → Type 0
May g x (Ride r) = (r < length x.riders) × (may_ride x r ≡ true)
May g x (Settle v) = may_settle g x v ≡ true

-- The state after an event.
abbrev pub after_event : (g : Terrain) (x : EventState) (e : Event) → EventState
after_event g x (Ride r) = after_ride_of g x r
after_event g x (Settle v) = after_settling g x v

-- Events, each possible in its turn, lead from x to y.
abbrev pub Leads : (g : Terrain) (x : EventState) (events : List Event) (y : EventState) → Type 0
Leads g x [] y = x ≡ y
Leads g x (e ∷ es) y = May g x e × Leads g (after_event g x e) es y

-- How many of these events are rides.
abbrev pub rides_in : (events : List Event) → ℕ
rides_in [] = 0
rides_in (Ride r ∷ es) = suc (rides_in es)
rides_in (Settle v ∷ es) = rides_in es

-- Every rider has stopped.
abbrev pub NobodyRuns : (x : EventState) → Type 0
NobodyRuns x = (r : ℕ) → r < length x.riders → ¬ ((rider_at x.riders r).stop ≡ None)

-- The first event state of a mesh.
abbrev pub first_event_state : (faces : Faces) → EventState
first_event_state faces = first_state (terrain_of faces) (vertex_count faces) (start_darts faces)

-- An event state that is reached on a mesh.
abbrev pub IsMotionOf : (faces : Faces) (x : EventState) → Type 0
IsMotionOf faces x = (events : List Event) × Leads (terrain_of faces) (first_event_state faces) events x
