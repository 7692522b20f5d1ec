-- The tables and the queue before the first instant.
use Rattle.std.proofs.lemmas.Grind.{common_steps}
use Rattle.std.proofs.Common.{rules, ◌≡◌, ℕ, ◌≤◌, Bool, false, not, List, [], ◌∷◌, length, map, ap, ◌∙◌, arith, ◌+◌}
use Rattle.std.proofs.Common.{◌++◌, suc, ◌-◌, ◌<◌, true, is_some, None, sym, refl, ◌||◌, inl, inr}
use Rattle.std.proofs.lemmas.List.FromFn.{length-map-range_with_len, get_or-map-range_with_len, map-range_with_len_more}
use Rattle.std.proofs.{lemmas.List.get_or-map, lemmas.List.length-map, lemmas.List.ext_get_or}
use Rattle.def_mesh.specs.{Faces.Faces, Manifold.IsManifold, Vertices.vertex_count, Components.start_darts, Darts.darts}
use Rattle.def_mesh.specs.{Darts.all_darts, Darts.twin_of, Kinds.is_inner, Kinds.is_singular}
use Rattle.def_cut.specs.Motion.{begun, State, ridden, is_among, ride}
use Rattle.def_cut.specs.{FullCut.is_on, Events.rider_at, declared.moving.Moving.Moving, Traced.AreRiders}
use Rattle.def_cut.specs.{Traced.IsRiderOf, Traced.is_cut, Traced.terrain_of, declared.graph.Rider.Rider}
use Rattle.def_feature.specs.{Marked.marked_starts, Marked.marked_first, Marked.marked_last, Marks.AreMarks}
use Rattle.feature_laws.proofs.{First.origin_of, First.marked_begin}
use Rattle.motion_laws.proofs.Among.{apart_filter, among_range, range_among, range_apart, among_here}
use Rattle.motion_laws.proofs.Among.{cases_List, cases_Option, from_filter, in_filter}
use Rattle.motion_laws.proofs.Onward.{at_rest, last_rests, finish_later, later_long}
use Rattle.motion_laws.proofs.{Marks.apart_few, Shown.runs_ridden}
use Rattle.qm_trace.specs.Tables.{IsQueue, IsGround, HaveStopped, IsEnd, IsOnItsWay, IsTableAt, is_running}
use Rattle.qm_trace.specs.Tables.{is_closed_at, state_at}
use Rattle.{std.specs.List.range_with_len, std.specs.List.filter, site_laws.proofs.Sites.started}
use Rattle.{site_laws.proofs.Sites.terrain, mesh_laws.proofs.Flood.all_below, qm_trace.proofs.Counting.ridden_where}

-- The riders start along darts, at most one along each.
pub starts_few : (faces : Faces) → IsManifold faces → length (start_darts faces) ≤ darts faces
starts_few faces m = apart_few (darts faces) (start_darts faces) (started faces m).apart (started faces m).low

-- So they do beside marks.
pub marked_few : (faces : Faces) (marks : List Bool) → length (marked_starts faces marks) ≤ darts faces
marked_few faces marks = apart_few _ _ (apart_filter _ _ (range_apart 0 (darts faces))) (λ d n. (origin_of _ _ d n).0)

-- At first everybody runs.
pub first_queue : (starts : List ℕ) (riders : List Moving) → riders ≡ map begun starts
    → IsQueue riders (range_with_len 0 (length starts))
first_queue starts riders is = record {
  runs = λ r m. grind (arith, common_steps, range_among 0 (length starts) r m, get_or-map begun starts r 0);
  all = λ r l e. among_range 0 _ r (omega arith) (omega (arith, l, ap length is, length-map starts begun));
  apart = range_apart 0 _;
}

-- The ground, vertex by vertex.
pub ground_is : (faces : Faces) → IsGround faces
    (map (λ v. not (is_inner faces v)) (range_with_len 0 (vertex_count faces)))
    (map (is_singular faces) (range_with_len 0 (vertex_count faces)))
ground_is faces = search (rules, length-map-range_with_len, get_or-map-range_with_len)

pub map_more : {X : Type 0} (f : ℕ → X) (n : ℕ) → map f (range_with_len 0 (n + 1)) ≡ map f (range_with_len 0 n)
    ++ f n ∷ []
map_more f n = map-range_with_len_more f 0 n n (omega arith)

-- The tables after k steps and after one more, and the queue of those who ran.
module _ {faces : Faces} {marks : List Bool} {k : ℕ} {riders new : List Moving} {queue : List ℕ}
    {stood stood2 covered covered2 taken taken2 : List Bool} (old : IsTableAt faces marks k riders stood covered taken)
    (now : IsTableAt faces marks (suc k) new stood2 covered2 taken2) (q : IsQueue riders queue) where
  abbrev then : State
  then = state_at faces marks k

  moved : Moving → Moving
  moved = ride (terrain_of faces) then.stood (ridden then.riders)

  next : new ≡ map moved riders
  unfolding moved
  next = now.riders_are ∙ sym (ap (map moved) old.riders_are)

  long : length new ≡ length riders
  long = ap length next ∙ length-map riders moved

  -- The riders of the queue are riders after the step too.
  pub queue_low : (r : ℕ) → is_among r queue ≡ true → r < length new
  queue_low r m = omega (arith, (q.runs r m).0, long)

  before : (r : ℕ) → r < length new → (rider_at new r).stop ≡ None → (rider_at riders r).stop ≡ None
  unfolding moved
  before r l runs = search (rules, get_or-map, long)

  -- The queue of the riders that still run.
  pub next_queue : IsQueue new (filter (λ r. is_running (rider_at new r).stop) queue)
  next_queue = search (rules, from_filter, in_filter, long, before, apart_filter)

-- Nobody waits in the queue, so nobody rides.
pub none_ride : (riders : List Moving) (queue : List ℕ) → IsQueue riders queue → length queue ≡ 0 → ridden riders ≡ []
none_ride riders (r ∷ queue) q none = absurd (omega arith)
none_ride riders [] q none = elim (cases_List (ridden riders)) [
  | inl is ↦ is
  | inr (d, ds, is) ↦ grind (arith, ridden_where riders d (ap (is_among d) is ∙ among_here d d ds refl))
]

pub first_on : (faces : Faces) (marks : List Bool) → IsOnItsWay faces marks 0
first_on faces marks more e = search rules

-- A step further on.
pub next_on : {faces : Faces} {marks : List Bool} {k : ℕ} {riders : List Moving} {stood covered taken : List Bool}
    {queue : List ℕ} → IsTableAt faces marks k riders stood covered taken → IsQueue riders queue → 0 < length queue
    → IsOnItsWay faces marks k → IsOnItsWay faces marks (k + 1)
next_on {queue = []} t q some way more e = absurd (omega arith)
next_on {faces} {marks} {k} {riders} {queue = r ∷ queue} t q some way more e =
    search (rules, runs_ridden riders r, way (suc more))

-- Where nobody rides, the tables are those of the end.
pub end_at : {faces : Faces} {marks : List Bool} {k : ℕ} {riders : List Moving} {stood covered taken : List Bool}
    → IsTableAt faces marks k riders stood covered taken → IsOnItsWay faces marks k → k ≤ vertex_count faces
    → ridden riders ≡ [] → IsEnd faces marks riders covered
end_at {faces} {marks} {k} t way low none =
    grind (arith, at_rest (terrain_of faces) (suc (vertex_count faces) - k) (state_at faces marks k))

-- After as many steps as there are vertices nobody rides.
pub all_over : {faces : Faces} → IsManifold faces → {marks : List Bool} → AreMarks faces marks → {riders : List Moving}
    → riders ≡ (state_at faces marks (vertex_count faces)).riders → ridden riders ≡ []
all_over {faces} m {marks} marked is = ap ridden is ∙ last_rests _ (terrain _ m) _ _ (marked_begin _ m _ marked) _
    (all_below _)

-- The marks of the graph.
pub marks_are : (faces : Faces) (covered marks : List Bool) → length marks ≡ darts faces
    → ((d : ℕ) → d < darts faces → is_on marks d ≡ (is_on covered d || not (is_some (twin_of faces d))))
    → marks ≡ map (is_closed_at faces covered) (all_darts faces)
marks_are faces covered marks long each = ext_get_or false _ _ (search (rules, length-map-range_with_len))
    (search (rules, get_or-map-range_with_len))

-- They are the cut of a state with these covered darts.
pub cut_is : (faces : Faces) (s : State) (covered : List Bool)
    → ((d : ℕ) → d < darts faces → is_on covered d ≡ s.covered d) → map (is_closed_at faces covered) (all_darts faces)
    ≡ map (is_cut (terrain_of faces) s) (all_darts faces)
cut_is faces s covered same = sym (marks_are faces covered (map (is_cut (terrain_of faces) s) (all_darts faces))
    (search (rules, length-map-range_with_len)) (search (rules, get_or-map-range_with_len)))

-- No rider is lost.
pub last_long : (faces : Faces) (marks : List Bool) → length (marked_last faces marks).riders
    ≡ length (marked_starts faces marks)
last_long faces marks =
    let f = finish_later (terrain_of faces) (marked_first faces marks) (suc (vertex_count faces)) 0 in
    ap (λ (s : State). length s.riders) f.1 ∙ (later_long (terrain_of faces) (marked_first faces marks) f.0
    ∙ length-map (marked_starts faces marks) begun)

-- Where nobody rides, each rider has stopped.
pub have_stopped : (riders : List Moving) → ridden riders ≡ [] → HaveStopped riders
have_stopped riders none r l = grind (arith, cases_Option (rider_at riders r).stop, runs_ridden riders r l)

-- One rider more is told.
pub riders_more : (ms : List Moving) (ds : List ℕ) (rs : List Rider) (m : Moving) (d : ℕ) (r : Rider)
    → AreRiders ms ds rs → IsRiderOf m d r → AreRiders (ms ++ m ∷ []) (ds ++ d ∷ []) (rs ++ r ∷ [])
riders_more [] [] [] m d r a i = (i, tt)
riders_more (k ∷ ms) (x ∷ ds) (y ∷ rs) m d r a i = (a.0, riders_more ms ds rs m d r a.1 i)
riders_more _ _ _ m d r a i = absurd a
