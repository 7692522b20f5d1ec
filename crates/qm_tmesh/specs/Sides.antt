-- How a line of darts is divided into uses of arcs.
use Rattle.std.specs.Prelude.{◌≡◌, ℕ, ◌+◌, ◌<◌, ◌≤◌, Bool, true, List, length, slice_index}
use Rattle.def_math.specs.Counts.{count_below}
use Rattle.def_layout.specs.Arcs.{Path, long_at}
use Rattle.def_layout.specs.declared.tmesh.SideArc.{SideArc}
use Rattle.qm_tmesh.specs.Uses.{use_in}

-- The darts of the first k of some uses.
abbrev pub reach_in : (arcs : List Path) (used : List SideArc) (k : ℕ) → ℕ
reach_in arcs used k = count_below (λ i. long_at arcs (use_in used i).arc) k

-- The use that begins at place t of a line fits there, and another one begins where it ends.
pub record HasUseAt (arcs : List Path) (uses : List SideArc) (line : List ℕ) (begins : ℕ → Bool) (t : ℕ) : Type 0 where
  pub low : (use_in uses (slice_index line t)).arc < length arcs
  pub some : 0 < long_at arcs (use_in uses (slice_index line t)).arc
  pub fits : t + long_at arcs (use_in uses (slice_index line t)).arc ≤ length line
  pub next : t + long_at arcs (use_in uses (slice_index line t)).arc < length line
      → begins (t + long_at arcs (use_in uses (slice_index line t)).arc) ≡ true

-- The line is made up of uses of arcs, which begin at these places.
pub record IsSplit (arcs : List Path) (uses : List SideArc) (line : List ℕ) (begins : ℕ → Bool) : Type 0 where
  pub low : (t : ℕ) → t < length line → slice_index line t < length uses
  pub first : 0 < length line → begins 0 ≡ true
  pub step : (t : ℕ) → t < length line → begins t ≡ true → HasUseAt arcs uses line begins t

-- These uses make up the line.
pub record IsSideOf (arcs : List Path) (uses : List SideArc) (line : List ℕ) (used : List SideArc) : Type 0 where
  pub total : reach_in arcs used (length used) ≡ length line
  pub each : (k : ℕ) → k < length used
      → (reach_in arcs used k < length line) × (use_in used k ≡ use_in uses (slice_index line (reach_in arcs used k)))

-- The same while the side grows.
pub record IsSideSoFar
    (arcs : List Path) (uses : List SideArc) (line : List ℕ) (begins : ℕ → Bool) (t : ℕ) (used : List SideArc)
    : Type 0 where
  pub at : reach_in arcs used (length used) ≡ t
  pub high : t ≤ length line
  pub next : t < length line → begins t ≡ true
  pub each : (k : ℕ) → k < length used
      → (reach_in arcs used k < length line) × (use_in used k ≡ use_in uses (slice_index line (reach_in arcs used k)))
