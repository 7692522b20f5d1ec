-- How patches are glued along arcs: neither a mesh nor a length is meant.
use Rattle.std.specs.Prelude.{◌≡◌, ℕ, zero, suc, ◌-◌, ◌<◌, cond, not}
use Rattle.def_layout.specs.declared.tmesh.SideArc.{SideArc}

-- The sides of a patch.
pub data Way : Type 0 where
  south : Way
  east : Way
  north : Way
  west : Way

-- The next side, counter-clockwise.
abbrev pub side_after : (side : Way) → Way
side_after south = east
side_after east = north
side_after north = west
side_after west = south

-- The side before it.
abbrev pub side_before : (side : Way) → Way
side_before south = west
side_before east = south
side_before north = east
side_before west = north

-- A gluing has so many nodes, arcs and patches. Each arc runs from its first node to its last one. A side of a patch
-- uses so many arcs, one after the other, counter-clockwise, each in its own direction or against it.
pub record Gluing : Type 0 where
  pub nodes : ℕ
  pub arcs : ℕ
  pub patches : ℕ
  pub first : (arc : ℕ) → ℕ
  pub last : (arc : ℕ) → ℕ
  pub many : (patch : ℕ) (side : Way) → ℕ
  pub use_at : (patch : ℕ) (side : Way) (at : ℕ) → SideArc

-- The node where an arc in use begins.
abbrev pub start_node : (gluing : Gluing) (arc : SideArc) → ℕ
start_node gluing arc = cond arc.forward (gluing.first arc.arc) (gluing.last arc.arc)

-- The node where it ends.
abbrev pub end_node : (gluing : Gluing) (arc : SideArc) → ℕ
end_node gluing arc = cond arc.forward (gluing.last arc.arc) (gluing.first arc.arc)

-- One arc used in both directions.
pub record AreReverse (one other : SideArc) : Type 0 where
  pub arc : other.arc ≡ one.arc
  pub turned : other.forward ≡ not one.forward

-- A place where a side uses an arc: the side of a patch, and the number of the arc on it.
pub record Slot : Type 0 where
  pub patch : ℕ
  pub side : Way
  pub at : ℕ

-- A slot of a gluing.
pub record IsSlot (gluing : Gluing) (slot : Slot) : Type 0 where
  pub patch_low : slot.patch < gluing.patches
  pub low : slot.at < gluing.many slot.patch slot.side

-- The arc that is used there.
abbrev pub use_of : (gluing : Gluing) (slot : Slot) → SideArc
use_of gluing slot = gluing.use_at slot.patch slot.side slot.at

-- The slot before that at a place of a side, going round the patch.
abbrev pub slot_before : (gluing : Gluing) (patch : ℕ) (side : Way) (at : ℕ) → Slot
slot_before gluing patch side zero =
    record { patch = patch; side = side_before side; at = gluing.many patch (side_before side) - 1 }
slot_before gluing patch side (suc at) = record { patch = patch; side = side; at = at }

-- The arc that is used before a slot, going round the patch.
abbrev pub use_before : (gluing : Gluing) (slot : Slot) → SideArc
use_before gluing slot = use_of gluing (slot_before gluing slot.patch slot.side slot.at)
