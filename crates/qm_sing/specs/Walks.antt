-- Walks along runs, and the runs found so far.
use Rattle.std.specs.Prelude.{◌≡◌, ◌≢◌, ◌⊎◌, ℕ, zero, suc, ◌<◌, ◌≤◌, Bool, true, false, cond, List, map, length}
use Rattle.std.specs.Prelude.{slice_index, Option, Some, None, option_map}
use Rattle.def_mesh.specs.Faces.{Faces}
use Rattle.def_mesh.specs.Darts.{darts, from_of, prev_of, twin_of}
use Rattle.def_runs.specs.Runs.{RunLists, IsBefore, IsLongestRun, first_dart, follower, is_closed, is_passed, nth_run}
use Rattle.qm_sing.specs.declared.flooding.TheConstants.{NONE}
use Rattle.qm_sing.specs.declared.lines.Line.{Line}

-- What was found, or else this dart.
abbrev pub or_stay : (found : Option ℕ) (d : ℕ) → ℕ
or_stay None d = d
or_stay (Some e) d = e

-- The dart before d in its run.
abbrev pub leader : (faces : Faces) (d : ℕ) → Option ℕ
leader faces d = cond (is_passed faces (from_of faces d)) (option_map prev_of (twin_of faces (prev_of d))) None

-- The dart k steps on from d.
abbrev pub walked : (step : ℕ → Option ℕ) (d k : ℕ) → ℕ
walked step d zero = d
walked step d (suc k) = or_stay (step (walked step d k)) (walked step d k)

-- The walk from d makes n steps, and meets d no more.
abbrev pub Goes : (step : ℕ → Option ℕ) (d n : ℕ) → Type 0
Goes step d n = (k : ℕ) → k < n → step (walked step d k) ≡ Some (walked step d (suc k))

abbrev pub StaysAway : (step : ℕ → Option ℕ) (d n : ℕ) → Type 0
StaysAway step d n = (k : ℕ) → k < n → walked step d (suc k) ≢ d

-- The walk back from d ends at `first`, or comes back to d.
pub record IsBack (faces : Faces) (d first : ℕ) : Type 0 where
  pub steps : ℕ
  pub goes : Goes (leader faces) d steps
  pub away : StaysAway (leader faces) d steps
  pub first_low : first < darts faces
  pub stops : ((leader faces first ≡ None) × (first ≡ walked (leader faces) d steps))
      ⊎ ((first ≡ d) × (leader faces (walked (leader faces) d steps) ≡ Some d))

-- Each of the first darts of a walk has its run and its place, and all other darts have what they had.
pub record AreTold (walk : ℕ → ℕ) (many r : ℕ) (run_old run at_old at : List ℕ) : Type 0 where
  pub told : (k : ℕ) → k < many → (slice_index run (walk k) ≡ r) × (slice_index at (walk k) ≡ k)
  pub kept : (e : ℕ) → ((k : ℕ) → k < many → walk k ≢ e)
      → (slice_index run e ≡ slice_index run_old e) × (slice_index at e ≡ slice_index at_old e)

-- The run that begins with `first` has this length, and its darts are told.
pub record IsLine (faces : Faces) (first r : ℕ) (line : Line) (run_old run at_old at : List ℕ) : Type 0 where
  pub last : ℕ
  pub long : line.len ≡ suc last
  pub goes : Goes (follower faces) first last
  pub away : StaysAway (follower faces) first last
  pub opens : line.closed ≡ false → follower faces (walked (follower faces) first last) ≡ None
  pub closes : line.closed ≡ true → follower faces (walked (follower faces) first last) ≡ Some first
  pub told : AreTold (walked (follower faces) first) (suc last) r run_old run at_old at

-- The runs with a dart below d are found.
pub record AreRunsBelow (faces : Faces) (d : ℕ) (run at : List ℕ) (lists : RunLists) : Type 0 where
  pub runs : (r : ℕ) → r < length lists → IsLongestRun faces (nth_run lists r)
  pub least : (r k : ℕ) → r < length lists → is_closed faces (nth_run lists r) ≡ true → k < length (nth_run lists r)
      → first_dart (nth_run lists r) ≤ slice_index (nth_run lists r) k
  pub increasing : (q r : ℕ) → q < r → r < length lists → IsBefore (nth_run lists q) (nth_run lists r)
  pub below : (r : ℕ) → r < length lists
      → (k : ℕ) × (k < length (nth_run lists r)) × (slice_index (nth_run lists r) k < d)
  pub told : (r k : ℕ) → r < length lists → k < length (nth_run lists r)
      → (slice_index run (slice_index (nth_run lists r) k) ≡ r) × (slice_index at (slice_index (nth_run lists r) k) ≡ k)
  pub there : (e : ℕ) → e < darts faces → slice_index run e ≢ NONE
      → (slice_index run e < length lists) × (slice_index at e < length (nth_run lists (slice_index run e)))
      × (slice_index (nth_run lists (slice_index run e)) (slice_index at e) ≡ e)
  pub all : (e : ℕ) → e < d → slice_index run e ≢ NONE

-- The same, with the tables of runs.
pub record AreRunsSoFar (faces : Faces) (d : ℕ) (run at len : List ℕ) (closed : List Bool) : Type 0 where
  pub lists : RunLists
  pub few : length lists ≤ d
  pub found : AreRunsBelow faces d run at lists
  pub run_long : length run ≡ darts faces
  pub at_long : length at ≡ darts faces
  pub lengths : len ≡ map length lists
  pub closes : closed ≡ map (is_closed faces) lists
