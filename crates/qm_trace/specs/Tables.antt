-- The tables of the trace.
use Rattle.std.specs.Prelude.{◌≡◌, ℕ, suc, slice_set, ◌+◌, ◌^◌, ◌<◌, Bool, true, false}
use Rattle.std.specs.Prelude.{cond, not, [], ◌∷◌, ◌||◌, List, length, is_some, Option, Some, None}
use Rattle.def_mesh.specs.Faces.{Faces}
use Rattle.def_mesh.specs.Darts.{darts, from_of, prev_of, twin_of}
use Rattle.def_mesh.specs.Vertices.{vertex_count}
use Rattle.def_mesh.specs.Kinds.{is_inner, is_singular}
use Rattle.def_cut.specs.FullCut.{is_on}
use Rattle.def_cut.specs.declared.graph.Stop.{Stop}
use Rattle.def_cut.specs.declared.graph.Stop.TheVariants.{Middle, Boundary, Singular, Trail, Tie}
use Rattle.def_cut.specs.declared.moving.Moving.{Moving}
use Rattle.qm_trace.specs.declared.ground.Site.{Site}
use Rattle.def_cut.specs.Motion.{end_of, ridden, is_among, after_ride, later, State}
use Rattle.def_cut.specs.Events.{rider_at}
use Rattle.def_cut.specs.Traced.{finish, terrain_of}
use Rattle.def_feature.specs.Marks.{AreMarks}
use Rattle.def_feature.specs.Marked.{marked_first, marked_last}

-- Of each vertex, whether it lies at the boundary and whether it is singular.
pub record IsGround (faces : Faces) (boundary singular : List Bool) : Type 0 where
  pub boundary_long : length boundary ≡ vertex_count faces
  pub singular_long : length singular ≡ vertex_count faces
  pub at_boundary : (v : ℕ) → v < vertex_count faces → is_on boundary v ≡ not (is_inner faces v)
  pub at_singular : (v : ℕ) → v < vertex_count faces → is_on singular v ≡ is_singular faces v

-- The twin is ridden now.
abbrev pub is_met_now : (twin : Option ℕ) (now : List Bool) → Bool
is_met_now None now = false
is_met_now (Some t) now = is_on now t

-- Some rider arrives from the opposite side, where the twin of the dart to the left is given.
abbrev pub is_faced : (twin : Option ℕ) (now : List Bool) → Bool
is_faced None now = false
is_faced (Some b) now = is_on now (prev_of b)

-- Some rider arrives to whom the rider over this twin gives way, or from the opposite side.
abbrev pub is_crowded : (faces : Faces) (twin : Option ℕ) (now : List Bool) → Bool
is_crowded faces None now = false
is_crowded faces (Some a) now = is_on now (prev_of a) || is_faced (twin_of faces (prev_of a)) now

-- What is known of vertex v, where `stood` says whether a rider has stood there.
pub record IsSite (faces : Faces) (stood : Bool) (v : ℕ) (site : Site) : Type 0 where
  pub boundary : site.boundary ≡ not (is_inner faces v)
  pub singular : site.singular ≡ is_singular faces v
  pub stood_is : site.stood ≡ stood

-- Why the rider by d stops at its end, of which this is known, by the marks of the darts that are ridden now.
abbrev pub stop_by : (faces : Faces) (boundary singular stood : Bool) (now : List Bool) (d : ℕ) → Option Stop
stop_by faces boundary singular stood now d =
    cond (is_met_now (twin_of faces d) now) (Some (Middle (from_of faces d) (end_of (terrain_of faces) d)))
    (cond boundary (Some (Boundary (end_of (terrain_of faces) d)))
    (cond singular (Some (Singular (end_of (terrain_of faces) d)))
    (cond stood (Some (Trail (end_of (terrain_of faces) d)))
    (cond (is_crowded faces (twin_of faces d) now) (Some (Tie (end_of (terrain_of faces) d))) None))))

abbrev pub stop_here : (faces : Faces) (site : Site) (now : List Bool) (d : ℕ) → Option Stop
stop_here faces site now d = stop_by faces site.boundary site.singular site.stood now d

-- The same, where the end of d and the marks of the vertices say what is known.
abbrev pub stop_now : (faces : Faces) (stood now : List Bool) (d : ℕ) → Option Stop
stop_now faces stood now d =
    stop_by faces (not (is_inner faces (end_of (terrain_of faces) d))) (is_singular faces (end_of (terrain_of faces) d))
    (is_on stood (end_of (terrain_of faces) d)) now d

-- A rider after its ride.
abbrev pub rode : (faces : Faces) (stood now : List Bool) (r : Moving) → Moving
rode faces stood now r = after_ride (terrain_of faces) r.dart r.rides (stop_now faces stood now r.dart)

-- The next dart of rider r.
abbrev pub dart_of : (riders : List Moving) (r : ℕ) → ℕ
dart_of riders r = (rider_at riders r).dart

-- No number stands there twice.
abbrev pub AreEachOnce : (numbers : List ℕ) → Type 0
AreEachOnce [] = Unit {0}
AreEachOnce (n ∷ ns) = (is_among n ns ≡ false) × AreEachOnce ns

-- The queue has the riders that run, each once.
pub record IsQueue (riders : List Moving) (queue : List ℕ) : Type 0 where
  pub runs : (r : ℕ) → is_among r queue ≡ true → (r < length riders) × ((rider_at riders r).stop ≡ None)
  pub all : (r : ℕ) → r < length riders → (rider_at riders r).stop ≡ None → is_among r queue ≡ true
  pub apart : AreEachOnce queue

-- The state after k steps of the motion beside these marked edges.
abbrev pub state_at : (faces : Faces) (marks : List Bool) (k : ℕ) → State
state_at faces marks k = later (terrain_of faces) (marked_first faces marks) k

-- The riders after k steps of the motion, with marks where riders have stood and at the darts that are ridden next.
pub record IsInstant
    (faces : Faces) (marks : List Bool) (k : ℕ) (riders : List Moving) (queue : List ℕ) (stood taken : List Bool)
    : Type 0 where
  pub marked : AreMarks faces marks
  pub riders_are : riders ≡ (state_at faces marks k).riders
  pub waits : IsQueue riders queue
  pub stood_is : (v : ℕ) → v < vertex_count faces
      → is_on stood v ≡ (state_at faces marks k).stood v
  pub taken_is : (d : ℕ) → is_on taken d ≡ is_among d (ridden riders)

-- Each of these darts is a dart.
abbrev pub AreDarts : (faces : Faces) (ds : List ℕ) → Type 0
AreDarts faces ds = (d : ℕ) → is_among d ds ≡ true → d < darts faces

-- Whether a rider with this stop runs.
abbrev pub is_running : (stop : Option Stop) → Bool
is_running None = true
is_running (Some s) = false

-- Each rider of the queue has ridden, and no other.
abbrev pub AreRode : (faces : Faces) (stood now : List Bool) (queue : List ℕ) (old new : List Moving) → Type 0
AreRode faces stood now queue old new = (r : ℕ) → r < length old
    → rider_at new r ≡ cond (is_among r queue) (rode faces stood now (rider_at old r)) (rider_at old r)

-- The riders of the queue are riders, whose darts are darts and whose rides can be counted on.
pub record CanRide (faces : Faces) (riders : List Moving) (queue : List ℕ) : Type 0 where
  pub low : (r : ℕ) → is_among r queue ≡ true → r < length riders
  pub dart : (r : ℕ) → is_among r queue ≡ true → dart_of riders r < darts faces
  pub rides : (r : ℕ) → is_among r queue ≡ true → (rider_at riders r).rides + 1 < 2 ^ 32
  pub apart : AreEachOnce queue

-- The tables after k steps of the motion, between two steps.
pub record IsTableAt
    (faces : Faces) (marks : List Bool) (k : ℕ) (riders : List Moving) (stood covered taken : List Bool)
    : Type 0 where
  pub marked : AreMarks faces marks
  pub riders_are : riders ≡ (state_at faces marks k).riders
  pub stood_long : length stood ≡ vertex_count faces
  pub covered_long : length covered ≡ darts faces
  pub taken_long : length taken ≡ darts faces
  pub stood_is : (v : ℕ) → v < vertex_count faces
      → is_on stood v ≡ (state_at faces marks k).stood v
  pub covered_is : (d : ℕ) → d < darts faces
      → is_on covered d ≡ (state_at faces marks k).covered d
  pub taken_none : (d : ℕ) → is_on taken d ≡ false

-- The marks with that of d, where there is no twin.
abbrev pub closed_at : (twin : Option ℕ) (marks : List Bool) (d : ℕ) → List Bool
closed_at None marks d = slice_set marks d true
closed_at (Some t) marks d = marks

-- Whether the edge of d is in the graph: it is covered, or at the boundary.
abbrev pub is_closed_at : (faces : Faces) (covered : List Bool) (d : ℕ) → Bool
is_closed_at faces covered d = is_on covered d || not (is_some (twin_of faces d))

-- Each rider has stopped.
abbrev pub HaveStopped : (riders : List Moving) → Type 0
HaveStopped riders = (r : ℕ) → r < length riders → is_some (rider_at riders r).stop ≡ true

-- The riders and the covered darts when nobody runs.
pub record IsEnd (faces : Faces) (marks : List Bool) (riders : List Moving) (covered : List Bool) : Type 0 where
  pub riders_are : riders ≡ (marked_last faces marks).riders
  pub covered_long : length covered ≡ darts faces
  pub covered_is : (d : ℕ) → d < darts faces → is_on covered d ≡ (marked_last faces marks).covered d

-- The motion, on from k steps, comes to its last state.
abbrev pub IsOnItsWay : (faces : Faces) (marks : List Bool) (k : ℕ) → Type 0
IsOnItsWay faces marks k = (more : ℕ) → k + more ≡ suc (vertex_count faces)
    → finish (terrain_of faces) more (state_at faces marks k) ≡ marked_last faces marks
