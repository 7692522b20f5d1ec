-- What is found of the runs of a mesh beside marks: which are closed and marked whole, and their least vertices.
use Rattle.std.specs.Prelude.{◌≡◌, ◌⊎◌, ℕ, ◌<◌, ◌≤◌, Bool, true, false, ◌&&◌, ◌==◌, List, length, slice_index_or}
use Rattle.def_mesh.specs.Faces.{Faces}
use Rattle.def_mesh.specs.Darts.{from_of}
use Rattle.def_cut.specs.FullCut.{is_on}

-- The run of dart d.
abbrev pub run_at : (run : List ℕ) (d : ℕ) → ℕ
run_at run d = slice_index_or run d 0

-- The least vertex of a run.
abbrev pub least_at : (least : List ℕ) (r : ℕ) → ℕ
least_at least r = slice_index_or least r 0

-- Of the runs that were on those are whole whose darts below n are all marked.
pub record AreWhole (marks : List Bool) (run : List ℕ) (old whole : List Bool) (n : ℕ) : Type 0 where
  pub long : length whole ≡ length old
  pub off : (d : ℕ) → d < n → is_on marks d ≡ false → is_on whole (run_at run d) ≡ false
  pub kept : (r : ℕ) → is_on whole r ≡ true → is_on old r ≡ true
  pub on : (r : ℕ) → is_on old r ≡ true → ((d : ℕ) → d < n → run_at run d ≡ r → is_on marks d ≡ true)
      → is_on whole r ≡ true

-- Of each run the least vertex that a dart of it below n leaves; it is `none` where there is no such dart.
pub record AreLeast (faces : Faces) (run least : List ℕ) (none n : ℕ) : Type 0 where
  pub below : (d : ℕ) → d < n → least_at least (run_at run d) ≤ from_of faces d
  pub there : (r : ℕ) → r < length least → (least_at least r ≡ none)
      ⊎ ((d : ℕ) × (d < n) × (run_at run d ≡ r) × (from_of faces d ≡ least_at least r))

-- Dart d leaves the least vertex of its run, which is whole.
abbrev pub is_home : (faces : Faces) (run : List ℕ) (whole : List Bool) (least : List ℕ) (d : ℕ) → Bool
is_home faces run whole least d = is_on whole (run_at run d) && (least_at least (run_at run d) == from_of faces d)
