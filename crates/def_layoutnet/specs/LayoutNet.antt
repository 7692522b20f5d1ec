-- The network of a layout: each patch has two nodes, one for its width and one for its height.
use Rattle.std.specs.Prelude.{◌≡◌, ℕ, ◌+◌, ◌*◌, ◌<◌, ◌≤◌, Bool, true, false, min, Some, None, length, ⊤}
use Rattle.def_flow.specs.Network.{Network, Node, arc_at, tangle_number}
use Rattle.def_flow.specs.declared.limits.TheConstants.{MAX_FLOOR, MAX_SCALE, MAX_TANGLE, MAX_WEIGHT}
use Rattle.def_flow.specs.declared.net.End.{End}
use Rattle.def_flow.specs.declared.net.Settings.{Settings}
use Rattle.def_flow.specs.declared.net.Weight.{Weight}
use Rattle.def_flow.specs.declared.net.Weight.TheVariants.{Plain, Length}
use Rattle.def_layout.specs.Gluings.{Way, south, east, north, west, Gluing, Slot, IsSlot, use_of}
use Rattle.def_layout.specs.Lengths.{Lengths}
use Rattle.def_layoutnet.specs.declared.NetFail.{NetFail}
use Rattle.def_layoutnet.specs.declared.NetFail.TheVariants as fail

-- The node at which the arcs of a side count: south and north are opposite, and so are east and west.
abbrev pub node_of : (patch : ℕ) (side : Way) → Node
node_of patch south = 2 * patch
node_of patch east = 2 * patch + 1
node_of patch north = 2 * patch
node_of patch west = 2 * patch + 1

-- South and east count on the plus side.
abbrev pub is_plus : (side : Way) → Bool
is_plus south = true
is_plus east = true
is_plus north = false
is_plus west = false

-- The end of an arc on a side of a patch.
abbrev pub end_at : (patch : ℕ) (side : Way) → End
end_at patch side = record { node = node_of patch side; plus = is_plus side }

-- The weight of an arc with this old length.
abbrev pub weight_of : (weight : Weight) (old : ℕ) → ℕ
weight_of Plain old = 1
weight_of Length old = min old MAX_WEIGHT

-- Settings within their limits.
pub record AreSettings (settings : Settings) : Type 0 where
  pub p_low : 1 ≤ settings.p
  pub p_high : settings.p ≤ MAX_SCALE
  pub q_low : 1 ≤ settings.q
  pub q_high : settings.q ≤ MAX_SCALE
  pub floor_low : 1 ≤ settings.floor
  pub floor_high : settings.floor ≤ MAX_FLOOR

-- The network of a layout with these old lengths, by which arcs are weighed, these wishes, from which lengths
-- deviate, and these floors. Its arcs are those of the layout. The left end of an arc is on the side that uses it in
-- its own direction, the right end on the side that uses it in the other, if there is one.
pub record IsNetOf
    (gluing : Gluing) (old wish : Lengths) (settings : Settings) (floor : Lengths) (net : Network)
    : Type 0 where
  pub nodes : net.nodes ≡ 2 * gluing.patches
  pub p : net.p ≡ settings.p
  pub q : net.q ≡ settings.q
  pub long : length net.arcs ≡ gluing.arcs
  pub olds : (a : ℕ) → a < gluing.arcs → (arc_at net.arcs a).old ≡ wish a
  pub weights : (a : ℕ) → a < gluing.arcs → (arc_at net.arcs a).weight ≡ weight_of settings.weight (old a)
  pub floors : (a : ℕ) → a < gluing.arcs → (arc_at net.arcs a).floor ≡ floor a
  pub left : (w : Slot) → IsSlot gluing w → (use_of gluing w).forward ≡ true
      → (arc_at net.arcs (use_of gluing w).arc).left ≡ end_at w.patch w.side
  pub right : (w : Slot) → IsSlot gluing w → (use_of gluing w).forward ≡ false
      → (arc_at net.arcs (use_of gluing w).arc).right ≡ Some (end_at w.patch w.side)
  pub alone : (a : ℕ) → a < gluing.arcs
      → ((w : Slot) → IsSlot gluing w → (use_of gluing w).arc ≡ a → (use_of gluing w).forward ≡ true)
      → (arc_at net.arcs a).right ≡ None

-- A network of the layout, with a tangle number that is too great.
pub record IsTangled (gluing : Gluing) (old wish : Lengths) (settings : Settings) (count : ℕ) : Type 0 where
  pub net : Network
  pub is : IsNetOf gluing old wish settings (λ a. settings.floor) net
  pub told : count ≡ tangle_number net
  pub high : MAX_TANGLE < count

-- Why a layout has no network, where there is memory.
abbrev pub HasNoNet : (gluing : Gluing) (old wish : Lengths) (settings : Settings) (fail : NetFail) → Type 0
HasNoNet gluing old wish settings (fail.Tangled count) = IsTangled gluing old wish settings count
HasNoNet gluing old wish settings fail.Memory = ⊤
