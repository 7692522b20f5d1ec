-- When a gluing is that of a surface.
use Rattle.std.specs.Prelude.{◌≡◌, ◌⊎◌, ℕ, ◌<◌, true}
use Rattle.def_layout.specs.Gluings.{Way, Gluing, Slot, IsSlot, AreReverse, use_of, use_before, start_node, end_node}

-- Sides are not empty, and name arcs and nodes that exist.
pub record HasWholeSides (gluing : Gluing) : Type 0 where
  pub sides_full : (patch : ℕ) (side : Way) → patch < gluing.patches → 0 < gluing.many patch side
  pub arc_low : (slot : Slot) → IsSlot gluing slot → (use_of gluing slot).arc < gluing.arcs
  pub first_low : (arc : ℕ) → arc < gluing.arcs → gluing.first arc < gluing.nodes
  pub last_low : (arc : ℕ) → arc < gluing.arcs → gluing.last arc < gluing.nodes

-- One arc lies at both slots, in opposite directions: the patches are neighbours there.
abbrev pub IsOtherSlot : (gluing : Gluing) (slot other : Slot) → Type 0
IsOtherSlot gluing slot other = IsSlot gluing other × AreReverse (use_of gluing slot) (use_of gluing other)

-- The patches of a gluing are glued along their arcs.
pub record IsSurface (gluing : Gluing) : Type 0 where
  pub paved : HasWholeSides gluing
  -- No slot uses an arc in the direction of another slot. Each arc is used in its own direction.
  pub once : (v w : Slot) → IsSlot gluing v → IsSlot gluing w → use_of gluing v ≡ use_of gluing w → v ≡ w
  pub forward : (arc : ℕ) → arc < gluing.arcs
      → (w : Slot) × IsSlot gluing w × (use_of gluing w ≡ record { arc = arc; forward = true })
  -- A slot has another one, or lies on the boundary.
  pub other : (w : Slot) → IsSlot gluing w
      → ((v : Slot) × IsOtherSlot gluing w v) ⊎ ((v : Slot) → ¬ IsOtherSlot gluing w v)
  -- An arc begins at each node, and each where the one before it ends.
  pub reached : (node : ℕ) → node < gluing.nodes
      → (w : Slot) × IsSlot gluing w × (start_node gluing (use_of gluing w) ≡ node)
  pub meet : (w : Slot) → IsSlot gluing w → end_node gluing (use_before gluing w) ≡ start_node gluing (use_of gluing w)
  -- No patch is folded at a corner.
  pub no_fold : (w : Slot) → IsSlot gluing w → w.at ≡ 0 → ¬ AreReverse (use_before gluing w) (use_of gluing w)
