-- Numbers that are lengths of a layout.
use Rattle.std.specs.Prelude.{◌≡◌, ℕ, ◌≤◌, List, length}
use Rattle.def_flow.specs.declared.limits.TheConstants.{MAX_LENGTH}
use Rattle.def_layout.specs.Gluings.{south, east, north, west, Gluing}
use Rattle.def_layout.specs.Lengths.{Lengths, size, AreLengths}
use Rattle.def_layout.specs.Layouts.{Layout, gluing_of}
use Rattle.def_remesh.specs.NewPoints.{lengths_in}

-- Opposite sides of a patch have equal sums.
abbrev pub AreEven : (gluing : Gluing) (lengths : Lengths) (patch : ℕ) → Type 0
AreEven gluing lengths patch =
    (size gluing lengths patch south ≡ size gluing lengths patch north)
    × (size gluing lengths patch east ≡ size gluing lengths patch west)

-- They are what the new mesh is made of.
pub record FitsLayout (layout : Layout) (list : List ℕ) : Type 0 where
  pub long : length list ≡ length layout.arcs
  pub lengths : AreLengths (gluing_of layout) (lengths_in list)
  pub bounded : (arc : ℕ) → lengths_in list arc ≤ MAX_LENGTH
