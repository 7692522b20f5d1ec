-- The laws of the motion on a mesh.
use Rattle.std.specs.Prelude.{◌≡◌, ◌≢◌, ◌⊎◌, ℕ, ◌<◌, ◌≤◌, true, false, List, [], length, slice_index, None}
use Rattle.def_mesh.specs.Faces.{Faces}
use Rattle.def_mesh.specs.Darts.{darts, from_of, to_of}
use Rattle.def_mesh.specs.Kinds.{is_inner}
use Rattle.def_mesh.specs.Manifold.{IsManifold}
use Rattle.def_mesh.specs.Components.{start_darts}
use Rattle.def_cut.specs.FullCut.{is_on, IsFullCut}
use Rattle.def_cut.specs.Motion.{State, ridden, after_steps}
use Rattle.def_cut.specs.Traced.{terrain_of, last_state, traced_marks}
use Rattle.def_cut.specs.Events.{EventState, Event, May, Leads, NobodyRuns, rider_at, rides_in, first_event_state}

-- A rider has stood at v, or v is a boundary vertex.
abbrev pub IsKnown : (faces : Faces) (s : State) (v : ℕ) → Type 0
IsKnown faces s v = (s.stood v ≡ true) ⊎ (is_inner faces v ≡ false)

-- The riders' next darts differ and leave vertices where a rider has stood, and both ends of a covered edge are known.
pub record IsLawful (faces : Faces) (s : State) : Type 0 where
  pub differ : (i j : ℕ) → i < j → j < length (ridden s.riders)
      → slice_index (ridden s.riders) i ≢ slice_index (ridden s.riders) j
  pub left : (i : ℕ) → i < length (ridden s.riders) → s.stood (from_of faces (slice_index (ridden s.riders) i)) ≡ true
  pub known : (d : ℕ) → d < darts faces → s.covered d ≡ true
      → IsKnown faces s (from_of faces d) × IsKnown faces s (to_of faces d)

-- So each state of the motion is.
abbrev pub StateLaw : Type 0
StateLaw = (faces : Faces) → IsManifold faces → (steps : ℕ)
    → IsLawful faces (after_steps (terrain_of faces) (start_darts faces) steps)

-- The motion ends, and the traced graph is a full cut.
abbrev pub TracedGraphLaw : Type 0
TracedGraphLaw = (faces : Faces) → IsManifold faces
    → (ridden (last_state faces).riders ≡ []) × IsFullCut faces (traced_marks faces)

-- In a state to which these events lead: where a rider runs some event is possible; there are at most as many rides as
-- darts; and where nobody runs, the riders and the covered edges are those of the last state of the motion.
pub record IsInOrder (faces : Faces) (events : List Event) (x : EventState) : Type 0 where
  pub possible : (r : ℕ) → r < length x.riders → (rider_at x.riders r).stop ≡ None
      → (e : Event) × May (terrain_of faces) x e
  pub bounded : rides_in events ≤ darts faces
  pub same_riders : NobodyRuns x → x.riders ≡ (last_state faces).riders
  pub same_edges : NobodyRuns x → (d : ℕ) → d < darts faces → is_on x.covered d ≡ (last_state faces).covered d

-- Riders of one instant may be moved in any order.
abbrev pub OrderLaw : Type 0
OrderLaw = (faces : Faces) → IsManifold faces → (events : List Event) (x : EventState)
    → Leads (terrain_of faces) (first_event_state faces) events x → IsInOrder faces events x
