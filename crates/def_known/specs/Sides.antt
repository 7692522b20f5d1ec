-- Layouts whose patches have four sides.
use Rattle.std.specs.Prelude.{◌≡◌, ◌<◌, ℕ, [], length, slice_index_or}
use Rattle.def_layout.specs.Surfaces.{HasWholeSides}
use Rattle.def_layout.specs.Layouts.{Layout, gluing_of}

-- Each patch has four sides, which are not empty and name arcs that exist.
pub record AreSides (layout : Layout) : Type 0 where
  pub sided : length layout.sides ≡ length layout.patches
  pub four : (patch : ℕ) → patch < length layout.patches → length (slice_index_or layout.sides patch []) ≡ 4
  pub paved : HasWholeSides (gluing_of layout)
