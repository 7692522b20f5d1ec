-- New lengths of the arcs of a layout.
use Rattle.std.specs.Prelude.{◌≡◌, ℕ, ◌^◌, ◌<◌, ◌≤◌, List, length, Option}
use Rattle.def_cut.specs.Grids.{patch_at}
use Rattle.def_layout.specs.Arcs.{long_at}
use Rattle.def_layout.specs.Borders.{side_size}
use Rattle.def_layout.specs.Gluings.{Way}
use Rattle.def_layout.specs.Lengths.{size, AreLengths}
use Rattle.def_layout.specs.Layouts.{Layout, gluing_of}
use Rattle.def_remesh.specs.NewPoints.{lengths_in}
use Rattle.def_remesh.specs.Spaced.{spacing_by}
use Rattle.def_remesh.specs.declared.limits.TheConstants.{MAX_NEW_FACES}
use Rattle.def_written.specs.NewFaces.{face_count}
use Rattle.def_written.specs.Numbers.{vertices}
use Rattle.def_written.specs.Spacings.{IsSpacing}
use Rattle.def_known.specs.Sides.{AreSides}

-- Lengths for a layout that give no more faces than a new mesh may have. As that is the layout of a mesh, its arcs and
-- sides are short, the new points are few, and they can be spaced by all shares.
pub record AreFine (layout : Layout) (list : List ℕ) : Type 0 where
  pub whole : AreSides layout
  pub old_some : (arc : ℕ) → arc < length layout.arcs → 0 < long_at layout.arcs arc
  pub old_short : (arc : ℕ) → arc < length layout.arcs → long_at layout.arcs arc ≤ 2 ^ 21
  pub old_sizes : (patch : ℕ) (side : Way) → patch < length layout.patches
      → size (gluing_of layout) (long_at layout.arcs) patch side ≡ side_size (patch_at layout.patches patch) side
  pub old_few : (patch : ℕ) (side : Way) → patch < length layout.patches
      → size (gluing_of layout) (long_at layout.arcs) patch side ≤ 2 ^ 21
  pub long : length list ≡ length layout.arcs
  pub lengths : AreLengths (gluing_of layout) (lengths_in list)
  pub few : face_count (gluing_of layout) (lengths_in list) ≤ MAX_NEW_FACES
  pub points : vertices (gluing_of layout) (lengths_in list) ≤ 2 ^ 23
  pub new_few : (patch : ℕ) (side : Way) → patch < length layout.patches
      → size (gluing_of layout) (lengths_in list) patch side ≤ 2 ^ 21
  pub spacing : (shares : Option (List ℕ)) → IsSpacing (gluing_of layout) (long_at layout.arcs) (lengths_in list)
      (spacing_by layout shares (lengths_in list))
