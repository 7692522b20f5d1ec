-- The points on a side of a patch.
use Rattle.std.proofs.Common.{rules, ◌≡◌, ◌⊎◌, ℕ, suc, ◌+◌, ◌-◌, ◌<◌, ◌≤◌, cond, inl, inr, arith}
use Rattle.std.proofs.lemmas.Bool.{cases_eq, cases_lt}
use Rattle.def_layout.specs.Gluings.{Way, side_after, Gluing, Slot, IsSlot, use_of}
use Rattle.def_layout.specs.Gluings.{start_node, end_node}
use Rattle.def_layout.specs.{Lengths.Lengths, Lengths.reach, Lengths.size, Lengths.AreLengths}
use Rattle.def_layout.specs.{declared.tmesh.SideArc.SideArc, Surfaces.HasWholeSides, Surfaces.IsSurface}
use Rattle.def_written.specs.Points.{node, along, arc_point, use_point, use_over, offset_at, side_point}
use Rattle.written_laws.proofs.Spacings.{count_rises, run_here, run_last, run_place}

-- The slot with these parts.
abbrev pub slot : (patch : ℕ) (side : Way) (at : ℕ) → Slot
slot p s m = record { patch = p; side = s; at = m }

module _ (l : Gluing) (x : Lengths) where
  -- The points of an arc.
  pub arc_last : (a k : ℕ) → k ≡ x a → 0 < k → arc_point l x a k ≡ node (l.last a)
  arc_last a k e some = search rules

  pub arc_inner : (a k : ℕ) → 0 < k → k < x a → arc_point l x a k ≡ along a k
  arc_inner a k some less = search rules

  -- An arc in use begins and ends at nodes.
  pub use_begins : (u : SideArc) → 0 < x u.arc → use_point l x u 0 ≡ node (start_node l u)
  use_begins u some = search rules

  pub use_ends : (u : SideArc) (o : ℕ) → o ≡ x u.arc → 0 < o → use_point l x u o ≡ node (end_node l u)
  use_ends u o e some = search rules

  pub use_inner : (u : SideArc) (o : ℕ) → 0 < o → o < x u.arc
      → use_point l x u o ≡ along u.arc (cond u.forward o (x u.arc - o))
  use_inner u o some less = search rules

  -- A point before the end of an arc in use is the node where it begins, or lies along it.
  pub use_sort : (u : SideArc) (o : ℕ) → o < x u.arc → ((o ≡ 0) × (use_point l x u o ≡ node (start_node l u)))
      ⊎ ((0 < o) × (use_point l x u o ≡ along u.arc (cond u.forward o (x u.arc - o))))
  use_sort u o less = search rules

  -- Where a point of it is a node, that is one of its ends.
  pub use_node : (u : SideArc) {o n : ℕ} → o ≤ x u.arc → use_point l x u o ≡ node n
      → (start_node l u ≡ n) ⊎ (end_node l u ≡ n)
  use_node u {o} {n} le e = search rules

  -- How long the arc at a place of a side is.
  abbrev pub long_at : (patch : ℕ) (side : Way) (at : ℕ) → ℕ
  long_at p s m = x (l.use_at p s m).arc

  -- The arc over a place within an arc.
  pub over_is : (w : Slot) (o : ℕ) → IsSlot l w → o < x (use_of l w).arc
      → use_over l x w.patch w.side (reach l x w.patch w.side w.at + o) ≡ w.at
  over_is w o is less = run_place _ _ w.at o is.low less

  pub side_in : {w : Slot} (o : ℕ) → IsSlot l w → o < x (use_of l w).arc
      → side_point l x w.patch w.side (reach l x w.patch w.side w.at + o) ≡ use_point l x (use_of l w) o
  side_in {w} o is less = search (rules, over_is)

  -- A place of a side lies within the arc of a slot.
  pub record IsOn (p : ℕ) (s : Way) (t m o : ℕ) : Type 0 where
    pub is_slot : IsSlot l (slot p s m)
    pub inside : o < x (l.use_at p s m).arc
    pub place : t ≡ reach l x p s m + o

  pub place_on : (p : ℕ) (s : Way) (t : ℕ) → p < l.patches → t < size l x p s
      → IsOn p s t (use_over l x p s t) (offset_at l x p s t)
  place_on p s t low less = let h = run_here _ _ t less in search rules

  -- An arc of a side ends on it.
  pub reach_low : (w : Slot) → IsSlot l w → reach l x w.patch w.side w.at + x (use_of l w).arc ≤ size l x w.patch w.side
  reach_low w is = count_rises (long_at w.patch w.side) (suc w.at) (l.many w.patch w.side) (omega arith)

  module _ (paved : HasWholeSides l) (len : AreLengths l x) where
    pub use_some : (w : Slot) → IsSlot l w → 0 < x (use_of l w).arc
    use_some w is = len.some (use_of l w).arc (paved.arc_low w is)

    pub first_slot : (p : ℕ) (s : Way) → p < l.patches → IsSlot l (slot p s 0)
    first_slot p s low = record { patch_low = low; low = paved.sides_full p s low }

    pub last_slot : (p : ℕ) (s : Way) → p < l.patches → IsSlot l (slot p s (l.many p s - 1))
    last_slot p s low = record { patch_low = low; low = omega (arith, paved.sides_full p s low) }

    -- The last arc of a side ends where the side does.
    pub last_reach : (p : ℕ) (s : Way) → p < l.patches
        → reach l x p s (l.many p s - 1) + long_at p s (l.many p s - 1) ≡ size l x p s
    last_reach p s low = search rules

    pub size_some : (p : ℕ) (s : Way) → p < l.patches → 0 < size l x p s
    size_some p s low = omega (arith, last_reach p s low, use_some (slot p s (l.many p s - 1)) (last_slot p s low))

    pub side_end : (p : ℕ) (s : Way) (t : ℕ) → p < l.patches → t ≡ size l x p s
        → side_point l x p s t ≡ node (end_node l (l.use_at p s (l.many p s - 1)))
    side_end p s t low e =
        let long = last_reach p s low in
        let some = use_some (slot p s (l.many p s - 1)) (last_slot p s low) in search (rules, run_last)

    -- The slot at the beginning of a side is its first one.
    pub first_is : (v : Slot) → IsSlot l v → reach l x v.patch v.side v.at ≡ 0 → v.at ≡ 0
    first_is v is none = grind (arith, use_some (slot v.patch v.side (v.at - 1)))

    -- The slot at the end of a side is its last one.
    pub last_is : (w : Slot) → IsSlot l w → size l x w.patch w.side ≤ reach l x w.patch w.side w.at + x (use_of l w).arc
        → w.at ≡ l.many w.patch w.side - 1
    last_is w is end =
        let later = slot w.patch w.side (suc w.at) in
        search (rules, reach_low later, use_some later, cases_lt (suc w.at) (l.many w.patch w.side))

  module _ (laid : IsSurface l) (len : AreLengths l x) where
    -- A side ends where the next one begins.
    pub corner_meets : (p : ℕ) (s : Way) (t : ℕ) → p < l.patches → t ≡ size l x p s
        → side_point l x p s t ≡ side_point l x p (side_after s) 0
    corner_meets p s t low e =
        let first = first_slot laid.paved len p (side_after s) low in
        let some = use_some laid.paved len (slot p (side_after s) 0) first in
        let begins = use_begins (l.use_at p (side_after s) 0) some in
        let at : end_node l (l.use_at p s (l.many p s - 1)) ≡ start_node l (l.use_at p (side_after s) 0) =
        search (rules, laid.meet (slot p (side_after s) 0) first) in
        cc (side_end laid.paved len p s t low e, side_in 0 first some)

    -- The points of an arc on a side, its end included.
    pub side_upto : (w : Slot) (o t : ℕ) → IsSlot l w → o ≤ x (use_of l w).arc → t ≡ reach l x w.patch w.side w.at + o
        → side_point l x w.patch w.side t ≡ use_point l x (use_of l w) o
    side_upto w o t is le e = elim (cases_lt o (x (use_of l w).arc)) [
      | inl less ↦ cc (side_in o is less)
      | inr more ↦
          let ends = use_ends (use_of l w) o (omega arith) (omega (arith, use_some laid.paved len w is)) in
          elim (cases_lt (suc w.at) (l.many w.patch w.side)) [
            | inl another ↦
                let next : IsSlot l (slot w.patch w.side (suc w.at)) = search rules in
                let same : t ≡ reach l x w.patch w.side (suc w.at) + 0 = omega arith in
                let some = use_some laid.paved len (slot w.patch w.side (suc w.at)) next in
                cc (side_in 0 next some, use_begins (l.use_at w.patch w.side (suc w.at)) some, laid.meet _ next, ends)
            | inr last ↦
                let m : w.at ≡ l.many w.patch w.side - 1 = omega arith in
                search (rules, last_reach, side_end)
          ]
    ]
