-- The runs of a mesh: longest straight lines of darts over regular inner vertices.
use Rattle.std.specs.Prelude.{◌≡◌, ◌≢◌, ℕ, suc, ◌-◌, ◌<◌, ◌≤◌, Bool, true, false, cond, ◌&&◌, ◌==◌, List, []}
use Rattle.std.specs.Prelude.{map, length, slice_index, slice_index_or, Option, Some, None}
use Rattle.def_mesh.specs.Faces.{Faces}
use Rattle.def_mesh.specs.Darts.{darts, to_of, straight_of}
use Rattle.def_mesh.specs.Kinds.{is_inner, is_regular}
use Rattle.def_runs.specs.declared.RunTable.{RunTable}

-- Whether runs go on over v: it is inner and regular.
abbrev pub is_passed : (faces : Faces) (v : ℕ) → Bool
is_passed faces v = is_inner faces v && is_regular faces v

-- The dart after d in its run: straight on, over an inner regular vertex.
abbrev pub follower : (faces : Faces) (d : ℕ) → Option ℕ
follower faces d = cond (is_passed faces (to_of faces d)) (straight_of faces d) None

-- The first and the last dart of a list.
abbrev pub first_dart : (run : List ℕ) → ℕ
first_dart run = slice_index run 0

abbrev pub last_dart : (run : List ℕ) → ℕ
last_dart run = slice_index run (length run - 1)

-- Dart d stands in the list.
abbrev pub HasDart : (run : List ℕ) (d : ℕ) → Type 0
HasDart run d = (k : ℕ) × (k < length run) × (slice_index run k ≡ d)

-- A longest list of different darts in which each follows the one before it.
pub record IsLongestRun (faces : Faces) (run : List ℕ) : Type 0 where
  pub some : 0 < length run
  pub low : (k : ℕ) → k < length run → slice_index run k < darts faces
  pub differ : (j k : ℕ) → j < k → k < length run → slice_index run j ≢ slice_index run k
  pub straight : (k : ℕ) → suc k < length run → follower faces (slice_index run k) ≡ Some (slice_index run (suc k))
  -- What follows its last dart stands in it, and so does what its first dart follows.
  pub ends : (d : ℕ) → follower faces (last_dart run) ≡ Some d → HasDart run d
  pub begins : (d : ℕ) → d < darts faces → follower faces d ≡ Some (first_dart run) → HasDart run d

-- Whether a dart was found and is d.
abbrev pub is_dart : (found : Option ℕ) (d : ℕ) → Bool
is_dart None d = false
is_dart (Some e) d = e == d

-- Whether the first dart follows the last.
abbrev pub is_closed : (faces : Faces) (run : List ℕ) → Bool
is_closed faces run = is_dart (follower faces (last_dart run)) (first_dart run)

-- Runs, each dart by dart.
abbrev pub RunLists : Type 0
RunLists = List (List ℕ)

-- The r-th of these runs.
abbrev pub nth_run : (runs : RunLists) (r : ℕ) → List ℕ
nth_run runs r = slice_index_or runs r []

-- Some dart of one run is less than all of the other.
abbrev pub IsBefore : (run other : List ℕ) → Type 0
IsBefore run other = (k : ℕ) × (k < length run) × ((j : ℕ) → j < length other → slice_index run k < slice_index other j)

-- All runs of a mesh: a closed one begins with its least dart, and they stand in order of their least darts. The table
-- has the run of each dart and its place there.
pub record AreRuns (faces : Faces) (table : RunTable) : Type 0 where
  pub lists : RunLists
  pub runs : (r : ℕ) → r < length lists → IsLongestRun faces (nth_run lists r)
  pub least : (r k : ℕ) → r < length lists → is_closed faces (nth_run lists r) ≡ true → k < length (nth_run lists r)
      → first_dart (nth_run lists r) ≤ slice_index (nth_run lists r) k
  pub increasing : (q r : ℕ) → q < r → r < length lists → IsBefore (nth_run lists q) (nth_run lists r)
  pub run_long : length table.run.items ≡ darts faces
  pub at_long : length table.at.items ≡ darts faces
  pub run_low : (d : ℕ) → d < darts faces → slice_index table.run.items d < length lists
  pub at_low : (d : ℕ) → d < darts faces
      → slice_index table.at.items d < length (nth_run lists (slice_index table.run.items d))
  pub stands : (d : ℕ) → d < darts faces
      → slice_index (nth_run lists (slice_index table.run.items d)) (slice_index table.at.items d) ≡ d
  pub lengths : table.len.items ≡ map length lists
  pub closes : table.closed.items ≡ map (is_closed faces) lists
