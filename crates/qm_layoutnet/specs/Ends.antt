-- The arcs of a network as the loops fill them: side after side their ends are put in.
use Rattle.std.specs.Prelude.{◌≡◌, ◌⊎◌, ℕ, ◌<◌, true, false, cond, List, [], ◌∷◌, length, slice_set, Some, None}
use Rattle.def_flow.specs.Network.{arc_at}
use Rattle.def_flow.specs.declared.net.Arc.{Arc}
use Rattle.def_flow.specs.declared.net.End.{End}
use Rattle.def_flow.specs.declared.net.Settings.{Settings}
use Rattle.def_layout.specs.declared.tmesh.SideArc.{SideArc}
use Rattle.def_layout.specs.declared.tmesh.TArc.{TArc}
use Rattle.def_layout.specs.Gluings.{Way, south, east, north, west, Gluing, Slot, IsSlot, use_of}
use Rattle.def_layout.specs.Lengths.{Lengths}
use Rattle.def_layout.specs.Layouts.{way_number}
use Rattle.def_layoutnet.specs.LayoutNet.{end_at, weight_of}

-- An arc with one more end: on the left where it is used in its own direction, else on the right.
abbrev pub with_side : (end : End) (used : SideArc) (arc : Arc) → Arc
with_side end used arc = cond used.forward (record arc { left = end }) (record arc { right = Some end })

-- The arcs with the end of one use.
abbrev pub with_end : (end : End) (used : SideArc) (arcs : List Arc) → List Arc
with_end end used arcs = slice_set arcs used.arc (with_side end used (arc_at arcs used.arc))

-- The arcs with the ends of some uses.
abbrev pub with_ends : (end : End) (uses : List SideArc) (arcs : List Arc) → List Arc
with_ends end [] arcs = arcs
with_ends end (u ∷ us) arcs = with_ends end us (with_end end u arcs)

-- The arcs with the ends of the four sides of a patch.
abbrev pub with_four : (patch : ℕ) (side : Way → List SideArc) (arcs : List Arc) → List Arc
with_four patch side arcs = with_ends (end_at patch west) (side west)
    (with_ends (end_at patch north) (side north)
    (with_ends (end_at patch east) (side east) (with_ends (end_at patch south) (side south) arcs)))

-- The arcs of a layout have the ends of the slots that are done.
pub record AreEnds
    (gluing : Gluing) (old : Lengths) (set : Settings) (done : Slot → Type 0) (arcs : List Arc)
    : Type 0 where
  pub long : length arcs ≡ gluing.arcs
  pub olds : (a : ℕ) → a < gluing.arcs → (arc_at arcs a).old ≡ old a
  pub weights : (a : ℕ) → a < gluing.arcs → (arc_at arcs a).weight ≡ weight_of set.weight (old a)
  pub floors : (a : ℕ) → a < gluing.arcs → (arc_at arcs a).floor ≡ set.floor
  pub left : (w : Slot) → IsSlot gluing w → done w → (use_of gluing w).forward ≡ true
      → (arc_at arcs (use_of gluing w).arc).left ≡ end_at w.patch w.side
  pub right : (w : Slot) → IsSlot gluing w → done w → (use_of gluing w).forward ≡ false
      → (arc_at arcs (use_of gluing w).arc).right ≡ Some (end_at w.patch w.side)
  pub alone : (a : ℕ) → a < gluing.arcs
      → ((w : Slot) → IsSlot gluing w → done w → (use_of gluing w).arc ≡ a → (use_of gluing w).forward ≡ true)
      → (arc_at arcs a).right ≡ None

-- The slots of the patches below p are done.
abbrev pub PatchesBelow : (p : ℕ) (slot : Slot) → Type 0
PatchesBelow p slot = slot.patch < p

-- So are those of the sides of p below side n, and on that side those below k.
abbrev pub SlotsBelow : (p n k : ℕ) (slot : Slot) → Type 0
SlotsBelow p n k slot =
    (slot.patch < p) ⊎ ((slot.patch ≡ p) × ((way_number slot.side < n) ⊎ ((way_number slot.side ≡ n) × (slot.at < k))))

-- An arc of this length whose ends are not known.
abbrev pub arc_of : (set : Settings) (old : ℕ) → Arc
arc_of set old =
    record {
      left = record { node = 0; plus = true };
      right = None;
      old = old;
      weight = weight_of set.weight old;
      floor = set.floor;
    }

-- The arc of a run.
abbrev pub open_arc : (set : Settings) (run : TArc) → Arc
open_arc set run = arc_of set (length run.darts.items)
