-- What the network of a layout tells of lengths.
use Rattle.std.specs.Prelude.{◌≡◌, ◌↔◌, ℕ, ◌<◌, ℤ, pos}
use Rattle.def_math.specs.Sums.{total_below}
use Rattle.def_flow.specs.Admissible.{IsBalanced}
use Rattle.def_flow.specs.Network.{Network}
use Rattle.def_flow.specs.declared.net.Settings.{Settings}
use Rattle.def_layout.specs.Surfaces.{IsSurface}
use Rattle.def_layout.specs.Gluings.{Way, south, east, north, west, Gluing}
use Rattle.def_layout.specs.Lengths.{AreLengths, Lengths}
use Rattle.def_layoutnet.specs.LayoutNet.{IsNetOf}

-- The sum of the lengths of the arcs of a side; an arc that stands twice counts twice.
abbrev pub sum_along : (gluing : Gluing) (lengths : ℕ → ℤ) (patch : ℕ) (side : Way) → ℤ
sum_along gluing lengths patch side =
    total_below (λ k. lengths (gluing.use_at patch side k).arc) (gluing.many patch side)

-- The opposite sides of each patch have equal sums.
pub record AreOpposite (gluing : Gluing) (lengths : ℕ → ℤ) : Type 0 where
  pub across : (patch : ℕ) → patch < gluing.patches
      → sum_along gluing lengths patch south ≡ sum_along gluing lengths patch north
  pub upright : (patch : ℕ) → patch < gluing.patches
      → sum_along gluing lengths patch east ≡ sum_along gluing lengths patch west

-- Lengths of at least 1 are lengths of the layout exactly where opposite sides are equal in whole numbers. A network
-- balances whole numbers, and a layout has lengths, so that both stand.
abbrev pub OppositeLaw : Type 0
OppositeLaw = (gluing : Gluing) (lengths : Lengths) → ((arc : ℕ) → arc < gluing.arcs → 0 < lengths arc)
    → AreLengths gluing lengths ↔ AreOpposite gluing (λ arc. pos (lengths arc))

-- Whole numbers are balanced at the nodes of the network exactly where opposite sides are equal.
abbrev pub BalanceLaw : Type 0
BalanceLaw = (gluing : Gluing) (old wish : Lengths) (settings : Settings) (floors : Lengths) (net : Network)
    → IsSurface gluing
    → IsNetOf gluing old wish settings floors net → (lengths : ℕ → ℤ)
    → IsBalanced net.arcs lengths ↔ AreOpposite gluing lengths

-- A layout has one network.
abbrev pub OneNetLaw : Type 0
OneNetLaw = (gluing : Gluing) (old wish : Lengths) (settings : Settings) (floors : Lengths) → IsSurface gluing
    → (one other : Network)
    → IsNetOf gluing old wish settings floors one → IsNetOf gluing old wish settings floors other → one ≡ other
