-- Where arcs lie on the sides of blocks, as the loops find it, and the links that follow.
use Rattle.std.specs.Prelude.{◌≡◌, ◌⊎◌, ℕ, ◌+◌, ◌*◌, ◌^◌, ◌<◌, ◌≤◌, true, cond, List, ◌++◌, length, map}
use Rattle.std.specs.Prelude.{slice_index_or, Option, Some, None}
use Rattle.std.specs.List.{range_with_len, All}
use Rattle.std.specs.Option.{is_some}
use Rattle.def_math.specs.Counts.{count_below}
use Rattle.def_layout.specs.Gluings.{Way, south, east, north, west, Gluing, Slot, IsSlot, use_of}
use Rattle.def_layout.specs.Lengths.{Lengths, size}
use Rattle.def_layout.specs.Layouts.{Layout, gluing_of, side_at}
use Rattle.def_layout.specs.declared.tmesh.SideArc.{SideArc}
use Rattle.def_remesh.specs.NewPoints.{lengths_in}
use Rattle.def_remesh.specs.Numberings.{sizes_on, used_at}
use Rattle.def_blocks.specs.Links.{first_point, side_name}
use Rattle.def_blocks.specs.declared.link.Link.{Link}
use Rattle.def_blocks.specs.declared.link.SideName.{SideName}
use Rattle.def_known.specs.Sides.{AreSides}

-- A layout whose sides are whole, with a length for each of its arcs: its patches are few, and its sides not too long.
pub record IsMeasured (layout : Layout) (lengths : List ℕ) : Type 0 where
  pub whole : AreSides layout
  pub each : length lengths ≡ length layout.arcs
  pub few : length layout.patches ≤ 2 ^ 21
  pub small : (block : ℕ) (side : Way) → block < length layout.patches
      → size (gluing_of layout) (lengths_in lengths) block side < 2 ^ 64

-- The arcs of a side have lengths, and add up to a number of 64 bits.
pub record IsSummed (side : List SideArc) (lengths : List ℕ) : Type 0 where
  pub low : All (λ (used : SideArc). used.arc < length lengths) side
  pub small : count_below (sizes_on side (lengths_in lengths)) (length side) < 2 ^ 64

-- A block, one of its sides, and a point there.
abbrev pub Spot : Type 0
Spot = ℕ × SideName × ℕ

-- The first point of a slot on the side of its block.
abbrev pub spot_of : (gluing : Gluing) (lengths : Lengths) (slot : Slot) → Spot
spot_of gluing lengths slot = (slot.patch, side_name slot.side, first_point gluing lengths slot)

-- Each arc has two places in a table of spots: one for its own direction, and one before it for the other.
abbrev pub key_of : (used : SideArc) → ℕ
key_of used = 2 * used.arc + cond used.forward 1 0

-- The place of the same arc in the other direction.
abbrev pub back_key : (used : SideArc) → ℕ
back_key used = 2 * used.arc + cond used.forward 0 1

abbrev pub spot_at : (table : List (Option Spot)) (key : ℕ) → Option Spot
spot_at table key = slice_index_or table key None

-- The spot of use `at` of a side.
abbrev pub spot_on : (side : List SideArc) (lengths : Lengths) (block : ℕ) (name : SideName) (at : ℕ) → Spot
spot_on side lengths block name at = (block, name, count_below (sizes_on side lengths) at)

-- The first `many` uses of a side put their spots into a table.
pub record HasUses
    (side : List SideArc) (lengths : Lengths) (block : ℕ) (name : SideName) (many : ℕ) (old new : List (Option Spot))
    : Type 0 where
  pub long : length new ≡ length old
  pub kept : (key : ℕ) → is_some (spot_at old key) ≡ true → is_some (spot_at new key) ≡ true
  pub put : (at : ℕ) → at < many → is_some (spot_at new (key_of (used_at side at))) ≡ true
  pub only : (key : ℕ) (spot : Spot) → spot_at new key ≡ Some spot
      → (spot_at old key ≡ Some spot)
      ⊎ ((at : ℕ) × (at < many) × (key_of (used_at side at) ≡ key) × (spot_on side lengths block name at ≡ spot))

-- These slots have put their spots into a table, and no others.
pub record HavePut
    (gluing : Gluing) (lengths : Lengths) (now : Slot → Type 0) (old new : List (Option Spot))
    : Type 0 where
  pub long : length new ≡ length old
  pub kept : (key : ℕ) → is_some (spot_at old key) ≡ true → is_some (spot_at new key) ≡ true
  pub put : (slot : Slot) → IsSlot gluing slot → now slot
      → is_some (spot_at new (key_of (use_of gluing slot))) ≡ true
  pub only : (key : ℕ) (spot : Spot) → spot_at new key ≡ Some spot → (spot_at old key ≡ Some spot)
      ⊎ ((slot : Slot) × IsSlot gluing slot
      × (key_of (use_of gluing slot) ≡ key) × (spot_of gluing lengths slot ≡ spot))

-- A table has the spots of the slots that are done, and none that is not the spot of a slot.
pub record HasSpots
    (gluing : Gluing) (lengths : Lengths) (done : Slot → Type 0) (table : List (Option Spot))
    : Type 0 where
  pub long : length table ≡ 2 * gluing.arcs
  pub put : (slot : Slot) → IsSlot gluing slot → done slot
      → is_some (spot_at table (key_of (use_of gluing slot))) ≡ true
  pub only : (key : ℕ) (spot : Spot) → spot_at table key ≡ Some spot
      → (slot : Slot) × IsSlot gluing slot × (key_of (use_of gluing slot) ≡ key) × (spot_of gluing lengths slot ≡ spot)

-- The slots of a side of a block.
abbrev pub IsOnSide : (block : ℕ) (side : Way) (slot : Slot) → Type 0
IsOnSide block side slot = (slot.patch ≡ block) × (slot.side ≡ side)

-- The slots of a block, and of the blocks before it.
abbrev pub IsOnBlock : (block : ℕ) (slot : Slot) → Type 0
IsOnBlock block slot = slot.patch ≡ block

abbrev pub IsBefore : (block : ℕ) (slot : Slot) → Type 0
IsBefore block slot = slot.patch < block

-- The link of an arc in use on a side of this name, from this point on.
abbrev pub link_from :
    (table : List (Option Spot)) (lengths : Lengths) (used : SideArc) (name : SideName) (from : ℕ) → Link
link_from table lengths used name from =
    record { side = name; from = from; len = lengths used.arc; other = spot_at table (back_key used) }

-- The link of use `at` of a side.
abbrev pub link_on :
    (table : List (Option Spot)) (lengths : Lengths) (name : SideName) (side : List SideArc) (at : ℕ) → Link
link_on table lengths name side at =
    link_from table lengths (used_at side at) name (count_below (sizes_on side lengths) at)

-- The links of a side.
abbrev pub links_on :
    (table : List (Option Spot)) (lengths : Lengths) (name : SideName) (side : List SideArc) → List Link
links_on table lengths name side = map (link_on table lengths name side) (range_with_len 0 (length side))

-- Those of a side of a block.
abbrev pub side_links :
    (layout : Layout) (lengths : Lengths) (table : List (Option Spot)) (block : ℕ) (side : Way) → List Link
side_links layout lengths table block side = links_on table lengths (side_name side) (side_at layout block side)

-- The links of a block, side after side.
abbrev pub block_links : (layout : Layout) (lengths : Lengths) (table : List (Option Spot)) (block : ℕ) → List Link
block_links layout lengths table block =
    ((side_links layout lengths table block south ++ side_links layout lengths table block east)
    ++ side_links layout lengths table block north)
    ++ side_links layout lengths table block west

-- The links of all blocks.
abbrev pub all_links : (layout : Layout) (lengths : Lengths) (table : List (Option Spot)) → List (List Link)
all_links layout lengths table = map (block_links layout lengths table) (range_with_len 0 (length layout.patches))
