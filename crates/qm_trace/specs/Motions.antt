-- The tables of a motion whose riders are moved one at a time.
use Rattle.std.specs.Prelude.{◌≡◌, ◌≢◌, ℕ, ◌<◌, ◌≤◌, Bool, true, false, cond, ◌==◌, List, [], ◌∷◌, length, slice_index}
use Rattle.std.specs.Prelude.{Option, Some, None}
use Rattle.std.specs.Vec.{vec_capacity}
use Rattle.def_mesh.specs.Faces.{Faces}
use Rattle.def_mesh.specs.Darts.{darts, next_of, to_of}
use Rattle.def_cut.specs.FullCut.{is_on}
use Rattle.def_cut.specs.declared.graph.Rider.{Rider}
use Rattle.def_cut.specs.declared.graph.Stop.{Stop}
use Rattle.def_cut.specs.declared.moving.Moving.{Moving}
use Rattle.def_cut.specs.Motion.{is_among, or_else, straight}
use Rattle.def_cut.specs.Events.{darts_in, more_if, note_at, rider_at, told, waiting}
use Rattle.def_cut.specs.Traced.{terrain_of}
use Rattle.qm_trace.specs.declared.ground.Site.{Site}
use Rattle.qm_trace.specs.declared.notes.Notes.{Notes}
use Rattle.qm_trace.specs.declared.telling.Riders.{Riders}
use Rattle.qm_trace.specs.Tables.{AreEachOnce, is_running, stop_here}

-- How many riders pass a test with their notes.
abbrev pub tally : (test : Moving → Option ℕ → Bool) (riders : List Moving) (noted : List (Option ℕ)) → ℕ
tally test [] noted = 0
tally test (r ∷ rs) [] = 0
tally test (r ∷ rs) (n ∷ ns) = more_if (test r n) (tally test rs ns)

-- A rider runs.
abbrev pub runs_on : (rider : Moving) (noted : Option ℕ) → Bool
runs_on rider noted = is_running rider.stop

-- A rider has ridden and is not told: it runs, and its dart still is the noted one.
abbrev pub is_untold_by : (stop : Option Stop) (d : ℕ) (noted : Option ℕ) → Bool
is_untold_by (Some s) d noted = false
is_untold_by None d None = false
is_untold_by None d (Some e) = d == e

abbrev pub is_untold : (rider : Moving) (noted : Option ℕ) → Bool
is_untold rider noted = is_untold_by rider.stop rider.dart noted

-- The notes: each noted dart has a mark and its rider's number, and the queue has the riders with notes.
pub record AreNotes (notes : Notes) : Type 0 where
  pub places_long : length notes.places.items ≡ length notes.taken.items
  pub taken_is : (d : ℕ) → is_on notes.taken.items d ≡ is_among d (darts_in notes.noted.items)
  pub slot : (r d : ℕ) → note_at notes.noted.items r ≡ Some d → slice_index notes.places.items d ≡ r
  pub queue_has : (r d : ℕ) → note_at notes.noted.items r ≡ Some d → is_among r notes.queue.items ≡ true
  pub queue_is : (r : ℕ) → is_among r notes.queue.items ≡ true → (d : ℕ) × (note_at notes.noted.items r ≡ Some d)
  pub queue_apart : AreEachOnce notes.queue.items
  pub room : length notes.noted.items ≤ vec_capacity notes.queue

-- The riders are counted.
pub record AreCounted (riders : Riders) (noted : List (Option ℕ)) : Type 0 where
  pub long : length noted ≡ length riders.list.items
  pub running : riders.running ≡ tally runs_on riders.list.items noted
  pub untold : riders.untold ≡ tally is_untold riders.list.items noted

-- A rider that runs with a note and is not told yet. Where nothing stops it, it has a dart to go on by.
pub record MayTell (faces : Faces) (site : Site) (notes : Notes) (riders : List Moving) (r : ℕ) : Type 0 where
  pub rider : r < length riders
  pub dart : (rider_at riders r).dart < darts faces
  pub untold : is_untold (rider_at riders r) (note_at notes.noted.items r) ≡ true
  pub onward : stop_here faces site notes.taken.items (rider_at riders r).dart ≡ None
      → or_else (straight (terrain_of faces) (rider_at riders r).dart) (rider_at riders r).dart
      ≢ (rider_at riders r).dart

-- A rider after the settling of v.
abbrev pub told_by : (faces : Faces) (site : Site) (taken : List Bool) (v : ℕ) (noted : Option ℕ)
    (rider : Moving) → Moving
told_by faces site taken v None rider = rider
told_by faces site taken v (Some d) rider =
    cond (to_of faces d == v) (told (terrain_of faces) d rider (stop_here faces site taken d)) rider

-- A rider where those are told whose noted dart comes before one of these.
abbrev pub told_along : (faces : Faces) (site : Site) (taken : List Bool) (fan : List ℕ)
    (noted : Option ℕ) (rider : Moving) → Moving
told_along faces site taken fan None rider = rider
told_along faces site taken fan (Some d) rider =
    cond (is_among (next_of d) fan) (told (terrain_of faces) d rider (stop_here faces site taken d)) rider

-- The riders whose noted dart ends at v are not told yet, and can be.
pub record CanTell (faces : Faces) (site : Site) (v : ℕ) (notes : Notes) (riders : Riders) : Type 0 where
  pub taken_long : length notes.taken.items ≡ darts faces
  pub low : (d : ℕ) → is_among d (darts_in notes.noted.items) ≡ true → d < darts faces
  pub untold : (r d : ℕ) → note_at notes.noted.items r ≡ Some d → to_of faces d ≡ v
      → ((rider_at riders.list.items r).stop ≡ None) × ((rider_at riders.list.items r).dart ≡ d)
  pub onward : (d : ℕ) → is_among d (darts_in notes.noted.items) ≡ true → to_of faces d ≡ v
      → stop_here faces site notes.taken.items d ≡ None → or_else (straight (terrain_of faces) d) d ≢ d

-- The tables of a motion belong together, and there is room for what becomes of its riders.
pub record IsKept (riders : Riders) (notes : Notes) (waits : ℕ) (covered : List Bool) (starts : List ℕ)
    (told_now : List Rider) (room : ℕ) : Type 0 where
  pub notes_are : AreNotes notes
  pub taken_long : length notes.taken.items ≡ length covered
  pub counted : AreCounted riders notes.noted.items
  pub waits_is : waits ≡ waiting riders.list.items notes.noted.items
  pub starts_long : length starts ≡ length riders.list.items
  pub untold_yet : told_now ≡ []
  pub has_room : length starts ≤ room
