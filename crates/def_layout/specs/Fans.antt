-- The patches round a node.
use Rattle.std.specs.Prelude.{◌≡◌, ◌⊎◌, ℕ, zero, suc}
use Rattle.def_layout.specs.Gluings.{Gluing, Slot, IsSlot, AreReverse, use_of, use_before, start_node}

-- The arc that begins at slot w is the one that ends before slot v: w is v turned past one patch.
pub record IsTurn (gluing : Gluing) (v w : Slot) : Type 0 where
  pub is_slot : IsSlot gluing w
  pub reverse : AreReverse (use_before gluing v) (use_of gluing w)

-- So many turns, either way, lead from v to w.
abbrev pub SlotTurns : (gluing : Gluing) (v w : Slot) (turns : ℕ) → Type 0
SlotTurns gluing v w zero = v ≡ w
SlotTurns gluing v w (suc n) =
    (u : Slot) × IsSlot gluing u × SlotTurns gluing v u n × (IsTurn gluing u w ⊎ IsTurn gluing w u)

-- Any two slots whose arcs begin at one node are joined by turns.
abbrev pub HasFans : (gluing : Gluing) → Type 0
HasFans gluing = (v w : Slot) → IsSlot gluing v → IsSlot gluing w
    → start_node gluing (use_of gluing v) ≡ start_node gluing (use_of gluing w) → (n : ℕ) × SlotTurns gluing v w n
