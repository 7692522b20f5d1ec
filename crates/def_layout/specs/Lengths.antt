-- Lengths of the arcs of a gluing, and the sizes of its patches.
use Rattle.std.specs.Prelude.{◌≡◌, ℕ, ◌<◌}
use Rattle.def_math.specs.Counts.{count_below}
use Rattle.def_layout.specs.Gluings.{Way, south, east, north, west, Gluing}

-- A whole number for each arc.
abbrev pub Lengths : Type 0
Lengths = ℕ → ℕ

-- The length of a side up to the arc with number `at`.
abbrev pub reach : (gluing : Gluing) (lengths : Lengths) (patch : ℕ) (side : Way) (at : ℕ) → ℕ
reach gluing lengths patch side at = count_below (λ k. lengths (gluing.use_at patch side k).arc) at

-- The length of a whole side.
abbrev pub size : (gluing : Gluing) (lengths : Lengths) (patch : ℕ) (side : Way) → ℕ
size gluing lengths patch side = reach gluing lengths patch side (gluing.many patch side)

-- The width of a patch.
abbrev pub wide : (gluing : Gluing) (lengths : Lengths) (patch : ℕ) → ℕ
wide gluing lengths patch = size gluing lengths patch south

-- Its height.
abbrev pub high : (gluing : Gluing) (lengths : Lengths) (patch : ℕ) → ℕ
high gluing lengths patch = size gluing lengths patch west

-- Lengths of at least 1, equal on opposite sides of each patch.
pub record AreLengths (gluing : Gluing) (lengths : Lengths) : Type 0 where
  pub some : (arc : ℕ) → arc < gluing.arcs → 0 < lengths arc
  pub across : (patch : ℕ) → patch < gluing.patches
      → size gluing lengths patch north ≡ size gluing lengths patch south
  pub upright : (patch : ℕ) → patch < gluing.patches
      → size gluing lengths patch east ≡ size gluing lengths patch west
