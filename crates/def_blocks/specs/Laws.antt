-- What is proved of links.
use Rattle.std.specs.Prelude.{◌≡◌, ◌≢◌, ◌⊎◌, ◌↔◌, ℕ, ◌+◌, ◌-◌, ◌<◌, ◌≤◌, true, List, [], slice_index_or, Some}
use Rattle.std.specs.List.{Contains}
use Rattle.def_layout.specs.Surfaces.{IsSurface, IsOtherSlot}
use Rattle.def_layout.specs.Gluings.{Gluing, Slot, IsSlot, use_of}
use Rattle.def_layout.specs.Lengths.{Lengths, AreLengths}
use Rattle.def_blocks.specs.declared.link.Link.{Link}
use Rattle.def_blocks.specs.declared.link.SideName.{SideName}
use Rattle.def_blocks.specs.Links.{AreLinks}
use Rattle.def_blocks.specs.SidePoints.{side_vertex}

-- An inner arc: two slots use it, each the other way round than the other, and no more.
pub record HasTwoSlots (gluing : Gluing) (arc : ℕ) : Type 0 where
  pub one : Slot
  pub other : Slot
  pub slot : IsSlot gluing one
  pub across : IsOtherSlot gluing one other
  pub uses : use_of gluing one ≡ record { arc = arc; forward = true }
  pub apart : one ≢ other
  pub only : (w : Slot) → IsSlot gluing w → (use_of gluing w).arc ≡ arc → (w ≡ one) ⊎ (w ≡ other)

-- An arc of the boundary: one slot uses it.
pub record HasOneSlot (gluing : Gluing) (arc : ℕ) : Type 0 where
  pub one : Slot
  pub slot : IsSlot gluing one
  pub uses : use_of gluing one ≡ record { arc = arc; forward = true }
  pub wall : (other : Slot) → ¬ IsOtherSlot gluing one other
  pub only : (w : Slot) → IsSlot gluing w → (use_of gluing w).arc ≡ arc → w ≡ one

-- Each arc has two links, or it lies on the boundary and has one.
abbrev pub TwoLinksLaw : Type 0
TwoLinksLaw = (gluing : Gluing) → IsSurface gluing → (arc : ℕ) → arc < gluing.arcs
    → HasTwoSlots gluing arc ⊎ HasOneSlot gluing arc

-- A slot is the other one of its other one, which is another slot, and no other slot is.
abbrev pub SymmetricLaw : Type 0
SymmetricLaw = (gluing : Gluing) → IsSurface gluing → (one other : Slot) → IsSlot gluing one
    → IsOtherSlot gluing one other → IsOtherSlot gluing other one × ((next : Slot) → IsOtherSlot gluing one next
    → next ≡ other)

-- A block has a link: so many points of its side, from this one on, lie at a point of another block's side.
abbrev pub HasLink :
    (links : List (List Link)) (block : ℕ) (side : SideName) (from len other : ℕ) (side' : SideName) (from' : ℕ)
    → Type 0
HasLink links block side from len other side' from' = Contains (slice_index_or links block [])
    (record { side = side; from = from; len = len; other = Some (other, side', from') })

-- A block has a link exactly where the other block has the same link the other way round.
abbrev pub AreMutual : (blocks : ℕ) (links : List (List Link)) → Type 0
AreMutual blocks links = (one other : ℕ) → one < blocks → other < blocks
    → (side side' : SideName) (from from' len : ℕ)
    → HasLink links one side from len other side' from' ↔ HasLink links other side' from' len one side from

abbrev pub MutualLaw : Type 0
MutualLaw = (gluing : Gluing) (lengths : Lengths) → IsSurface gluing
    → (links : List (List Link)) → AreLinks gluing lengths links → AreMutual gluing.patches links

-- Linked points are one vertex, counted from the beginning of a link and from the end of the link on the other side.
abbrev pub AreJoined : (gluing : Gluing) (lengths : Lengths) (links : List (List Link)) → Type 0
AreJoined gluing lengths links = (one other : ℕ) → one < gluing.patches
    → (side side' : SideName) (from from' len : ℕ) → HasLink links one side from len other side' from'
    → (k : ℕ) → k ≤ len
    → side_vertex gluing lengths one side (from + k) ≡ side_vertex gluing lengths other side' (from' + (len - k))

abbrev pub LinkedPointsLaw : Type 0
LinkedPointsLaw = (gluing : Gluing) (lengths : Lengths) → IsSurface gluing → AreLengths gluing lengths
    → (links : List (List Link)) → AreLinks gluing lengths links → AreJoined gluing lengths links
