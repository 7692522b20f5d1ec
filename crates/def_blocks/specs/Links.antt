-- The links of a block: one for each slot of its patch, side after side.
use Rattle.std.specs.Prelude.{◌≡◌, ℕ, ◌+◌, ◌<◌, List, [], length, slice_get, slice_index_or, Some, None}
use Rattle.def_layout.specs.Surfaces.{IsOtherSlot}
use Rattle.def_layout.specs.Gluings.{Way, south, east, north, west, Gluing, Slot, IsSlot, use_of}
use Rattle.def_layout.specs.Lengths.{Lengths, reach}
use Rattle.def_blocks.specs.declared.link.Link.{Link}
use Rattle.def_blocks.specs.declared.link.SideName.{SideName}
use Rattle.def_blocks.specs.declared.link.SideName.TheVariants.{South, East, North, West}

-- The name of a side.
abbrev pub side_name : (side : Way) → SideName
side_name south = South
side_name east = East
side_name north = North
side_name west = West

-- The first point of a slot, counted along its side.
abbrev pub first_point : (gluing : Gluing) (lengths : Lengths) (slot : Slot) → ℕ
first_point gluing lengths slot = reach gluing lengths slot.patch slot.side slot.at

-- The link of a slot: the points of its arc on its side, and where they lie on the side of the other slot, if there is
-- one.
pub record IsLinkOf (gluing : Gluing) (lengths : Lengths) (slot : Slot) (link : Link) : Type 0 where
  pub side : link.side ≡ side_name slot.side
  pub from : link.from ≡ first_point gluing lengths slot
  pub len : link.len ≡ lengths (use_of gluing slot).arc
  pub linked : (other : Slot) → IsOtherSlot gluing slot other
      → link.other ≡ Some (other.patch, side_name other.side, first_point gluing lengths other)
  pub wall : ((other : Slot) → ¬ IsOtherSlot gluing slot other) → link.other ≡ None

-- How many arcs lie on the sides of a patch before this one.
abbrev pub arcs_before : (gluing : Gluing) (patch : ℕ) (side : Way) → ℕ
arcs_before gluing patch south = 0
arcs_before gluing patch east = gluing.many patch south
arcs_before gluing patch north = gluing.many patch south + gluing.many patch east
arcs_before gluing patch west = gluing.many patch south + gluing.many patch east + gluing.many patch north

-- The place of a slot among those of its patch: side after side, along each.
abbrev pub place_in : (gluing : Gluing) (slot : Slot) → ℕ
place_in gluing slot = arcs_before gluing slot.patch slot.side + slot.at

-- The links of all blocks: each slot has one, at its place, and there are no more.
pub record AreLinks (gluing : Gluing) (lengths : Lengths) (links : List (List Link)) : Type 0 where
  pub blocks : length links ≡ gluing.patches
  pub many : (patch : ℕ) → patch < gluing.patches
      → length (slice_index_or links patch []) ≡ arcs_before gluing patch west + gluing.many patch west
  pub each : (slot : Slot) → IsSlot gluing slot → (link : Link)
      × (slice_get (slice_index_or links slot.patch []) (place_in gluing slot) ≡ Some link)
      × IsLinkOf gluing lengths slot link
