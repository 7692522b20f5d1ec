-- The border darts of a patch tell their places, and so do all darts that leave a place of an arc.
use Rattle.std.proofs.Common.{rules, ◌≡◌, ℕ, zero, suc, ◌+◌, ◌-◌, ◌<◌, Bool, true, false, refl, sym, ◌∙◌, ap}
use Rattle.std.proofs.Common.{inl, inr, arith, ◌⊎◌, ◌≤◌, not, cond}
use Rattle.def_layout.specs.Gluings.{Way, south, east, north, west, side_before, Gluing, Slot, IsSlot}
use Rattle.def_layout.specs.Gluings.{use_of, use_before, slot_before, start_node}
use Rattle.def_layout.specs.{Lengths.Lengths, Lengths.reach, Lengths.size, Lengths.AreLengths, Surfaces.HasWholeSides}
use Rattle.def_layout.specs.{Surfaces.IsSurface, Surfaces.IsOtherSlot, Fans.IsTurn, Fans.SlotTurns, Fans.HasFans}
use Rattle.def_layout.specs.Cells.{CellDart, next, prev, dart_along, slot_dart, IsDart, dart}
use Rattle.written_laws.proofs.{Rims.corner_next, Rims.column_of, Rims.row_of, Rims.over}
use Rattle.written_laws.proofs.{Rims.IsWithin, Rims.IsInner, Rims.rim_within, Spacings.place_same}
use Rattle.written_laws.proofs.Sides.{slot, long_at, use_some, last_reach, first_is, last_is, use_sort}
use Rattle.written_laws.proofs.Borders.{place_at, spot_dart, at_low, before_is, IsSpot, IsOnBorder, at_is, spot_is}
use Rattle.written_laws.proofs.Borders.{spot_from, sort_spot, inner_from, use_not_inside}
use Rattle.def_written.specs.{Points.use_point, NewFaces.column, NewFaces.row, NewFaces.dart_start}

module _ {l : Gluing} {x : Lengths} (paved : HasWholeSides l) (len : AreLengths l x) where
  -- The dart next to a border dart lies on the border at the end of the side alone.
  no_corner : (p q : ℕ) (s r : Way) (t u : ℕ) → p < l.patches → t + 1 < size l x p s → u < size l x q r
      → next (dart_along l x p s t) ≡ dart_along l x q r u → ⊥
  no_corner p q s r t u low t_low u_low e = search rules

  -- A dart is one of those at one place.
  pub spot_once : {d : CellDart} {w v : Slot} {o k : ℕ} {b c : Bool} → IsSpot l x d w o b → IsSpot l x d v k c
      → (w ≡ v) × (o ≡ k) × (b ≡ c)
  spot_once {d} {w} {v} {o} {k} {b} {c} s r =
      let t_low = at_low l x paved len o s.is_slot s.low in
      let u_low = at_low l x paved len k r.is_slot r.low in
      let same = place_same (long_at l x w.patch w.side) (l.many w.patch w.side) w.at o v.at k s.is_slot.low in
      let darts : spot_dart l x w o b ≡ spot_dart l x v k c = sym s.dart ∙ r.dart in
      search (rules, same, no_corner, s.behind, r.behind)

  pub rim_slot : {w v : Slot} {o k : ℕ} → IsSlot l w → IsSlot l v → o < x (use_of l w).arc → k < x (use_of l v).arc
      → slot_dart l x w o ≡ slot_dart l x v k → w ≡ v
  rim_slot {w} {v} {o} {k} is_w is_v o_low k_low e =
      let a : IsSpot l x (slot_dart l x w o) w o false = search rules in
      let b : IsSpot l x (slot_dart l x w o) v k false = search rules in (spot_once a b).0

  -- Next to the last border dart of an arc lies a dart at the next slot: the first one on its border, or behind it.
  pub before_spot : (w : Slot) → IsSlot l w → (b : Bool) × IsSpot l x (next (slot_dart l x (slot_before l w.patch w.side
      w.at) (x (use_before l w).arc - 1))) w 0 b × (b ≡ false → w.at ≡ 0)
  before_spot w is = by_place w.at is
    where
      by_place : (m : ℕ) → IsSlot l (slot w.patch w.side m) → (b : Bool)
          × IsSpot l x (next (slot_dart l x (slot_before l w.patch w.side m)
          (x (use_before l (slot w.patch w.side m)).arc - 1))) (slot w.patch w.side m) 0 b × (b ≡ false → m ≡ 0)
      by_place zero first =
          let q = side_before w.side in
          let some = use_some l x paved len (slot_before l w.patch w.side 0)
          (before_is l x paved len (slot w.patch w.side 0) first) in
          let ahead = corner_next paved len w.patch q (place_at l x (slot_before l w.patch w.side 0)
          (x (use_before l (slot w.patch w.side 0)).arc - 1)) first.patch_low
          (omega (arith, last_reach l x paved len w.patch q first.patch_low, some)) in
          let low = use_some l x paved len (slot w.patch w.side 0) first in search rules
      by_place (suc m) later =
          let some = use_some l x paved len (slot w.patch w.side m) (search rules) in
          let back : reach l x w.patch w.side m + (x (l.use_at w.patch w.side m).arc - 1)
          ≡ reach l x w.patch w.side (suc m) + 0 - 1 = omega (arith, some) in (
            true,
            search (rules, use_some, back),
            λ s. absurd cc,
          )

  -- Two border darts in a row lie on the last arc of a side and the first of the next one.
  pub corner_slots : (d : CellDart) {w v : Slot} {o k : ℕ} → IsOnBorder l x d w o → IsOnBorder l x (next d) v k
      → (v.at ≡ 0) × (slot_before l v.patch v.side v.at ≡ w)
  corner_slots d {w} {v} {o} {k} at_w at_v =
      let u_low = at_low l x paved len k at_v.is_slot at_v.low in
      search (rules, first_is, last_is)

-- Points are the classes of corners under turns: what holds for turns holds for all darts that leave one point.

-- R is an equivalence that holds for darts turned by one cell inside a patch, and over the border of one.
pub record IsTurning (l : Gluing) (x : Lengths) (R : CellDart → CellDart → Type 0) : Type 0 where
  pub self : (d e : CellDart) → d ≡ e → R d e
  pub on : (d c e : CellDart) → R d c → R c e → R d e
  pub back : (d e : CellDart) → IsDart l x d → R d e → R e d
  pub inner : (d : CellDart) → IsDart l x d → IsWithin l x (prev d) → R d (over (prev d))
  pub over : (w v : Slot) (o : ℕ) → IsSlot l w → IsOtherSlot l w v → o < x (use_of l w).arc
      → R (next (slot_dart l x w o)) (slot_dart l x v (x (use_of l w).arc - 1 - o))

-- Two ways are the same or opposite, and no way is its opposite.
pub alike_or_turned : (a b : Bool) → (a ≡ b) ⊎ (b ≡ not a)
alike_or_turned a b = search rules

pub not_self : (b : Bool) → b ≡ not b → ⊥
not_self = elim [ true ↦ λ e. cc | false ↦ λ e. cc ]

pub not_twice : (b : Bool) → not (not b) ≡ b
not_twice = elim [ true ↦ refl | false ↦ refl ]

-- Places along an arc that is used the same way round, and the other way round.
pub alike_place : (f : Bool) {g : Bool} {n m o k : ℕ} → f ≡ g → n ≡ m → o ≤ n → k ≤ m
    → cond f o (n - o) ≡ cond g k (m - k) → o ≡ k
alike_place f h1 h2 h3 h4 h5 = search rules

turned_place : (f : Bool) {g : Bool} {n m o k : ℕ} → g ≡ not f → n ≡ m → o < n → k < m
    → cond f o (n - o) ≡ cond g k (m - k) → k ≡ n - o
turned_place f h1 h2 h3 h4 h5 = search rules

module _ {l : Gluing} {x : Lengths} (paved : HasWholeSides l) (len : AreLengths l x) {R : CellDart → CellDart → Type 0}
    (turning : IsTurning l x R) where
  -- It holds for a dart at a place of an arc and the border dart there,
  spot_related : {d : CellDart} {w : Slot} {o : ℕ} {b : Bool} → IsSpot l x d w o b → R d (slot_dart l x w o)
  spot_related {d} {w} {o} {b} s = turning.on _ _ _ (turning.self _ _ s.dart) (by_side b s.behind)
    where
      by_side : (b : Bool) → (b ≡ true → 0 < place_at l x w o) → R (spot_dart l x w o b) (slot_dart l x w o)
      by_side false some = turning.self _ _ refl
      by_side true some = grind (arith, rim_within paved len, at_low l x paved len o s.is_slot s.low)

  -- so for the dart after the last one of an arc and the first one of the next arc.
  pub before_related : (w : Slot) → IsSlot l w
      → R (next (slot_dart l x (slot_before l w.patch w.side w.at) (x (use_before l w).arc - 1))) (slot_dart l x w 0)
  before_related w is = spot_related (before_spot paved len w is).1

  -- It holds for darts at a grid point inside a patch.
  north_on : (p c r : ℕ) → IsDart l x (dart p c r north) → IsInner paved len p (c + 1) (r + 1)
      → R (dart p c r north) (dart p (c + 1) (r + 1) south)
  north_on p c r d n = turning.on _ (dart p (c + 1) r west) _ (search rules) (search rules)

  to_south : (p c r : ℕ) (w : Way) → IsDart l x (dart p c r w) → IsInner paved len p (column c w) (row r w)
      → R (dart p c r w) (dart p (column c w) (row r w) south)
  to_south p c r south d n = turning.self _ _ refl
  to_south p c r west d n = turning.inner _ d (d.patch_low, d.i_low, n.b_some, n.b_low)
  to_south p c r north d n = north_on p c r d n
  to_south p c r east d n =
      let e : r - 1 + 1 ≡ r = omega (arith, n.b_some) in
      let ahead = north_on p c (r - 1) (search rules) (rw e n) in
      grind (arith, turning.inner (dart p c r east) d (d.patch_low, d.i_low, n.b_some, n.b_low))

module _ {l : Gluing} {x : Lengths} (laid : IsSurface l) (len : AreLengths l x) {R : CellDart → CellDart → Type 0}
    (turning : IsTurning l x R) where
  -- A turn of the gluing.
  pub turn_related : {v w : Slot} → IsSlot l v → IsTurn l v w → R (slot_dart l x v 0) (slot_dart l x w 0)
  turn_related {v} {w} is turn =
      let b = slot_before l v.patch v.side v.at in
      let is_b = before_is l x laid.paved len v is in
      let k = x (use_of l b).arc - 1 in
      let some = use_some l x laid.paved len b is_b in
      let zero_is : x (use_of l b).arc - 1 - k ≡ 0 = omega arith in
      let over = turning.over b w k is_b (turn.is_slot, turn.reverse) (omega arith) in
      turning.on _ _ _ (turning.back _ _ (search (rules, at_is)) (before_related laid.paved len turning v is))
      (rw zero_is at over)

  pub turns_related : (v w : Slot) (n : ℕ) → IsSlot l v → IsSlot l w → SlotTurns l v w n
      → R (slot_dart l x v 0) (slot_dart l x w 0)
  turns_related v w zero is_v is_w same = search rules
  turns_related v w (suc n) is_v is_w turns = turning.on _ _ (slot_dart l x w 0)
      (turns_related v turns.0 n is_v turns.1 turns.2) (elim turns.3 [
        | inl t ↦ turn_related turns.1 t
        | inr t ↦ turning.back _ _ (search (rules, at_is, use_some)) (turn_related is_w t)
      ])

  -- It holds for the first darts of arcs that begin at one node.
  abbrev pub AtNodes : Type 0
  AtNodes = (v w : Slot) → IsSlot l v → IsSlot l w → start_node l (use_of l v) ≡ start_node l (use_of l w)
      → R (slot_dart l x v 0) (slot_dart l x w 0)

  pub at_nodes : HasFans l → AtNodes
  at_nodes fans v w is_v is_w same = let t = fans v w is_v is_w same in turns_related v w _ is_v is_w t.1

  -- It holds for two border darts that leave one inner point of an arc.
  along_related : (w v : Slot) (o k : ℕ) → IsSlot l w → IsSlot l v → 0 < o → o < x (use_of l w).arc → k < x (use_of l
      v).arc → (use_of l w).arc ≡ (use_of l v).arc → cond (use_of l w).forward o (x (use_of l w).arc - o) ≡ cond (use_of
      l v).forward k (x (use_of l v).arc - k) → R (slot_dart l x w o) (slot_dart l x v k)
  along_related w v o k is_w is_v o_some o_low k_low arcs place = elim (alike_or_turned _ _) [
    | inl ways ↦
        let one : w ≡ v = laid.once w v is_w is_v (λ t. record { arc = arcs t; forward = ways t }) in
        search (rules, alike_place)
    | inr ways ↦
        let at = turned_place _ ways (ap x arcs) o_low k_low place in
        let place_is : x (use_of l w).arc - 1 - (o - 1) ≡ k = omega arith in
        let over = turning.over w v (o - 1) is_w (is_v, record { arc = sym arcs; turned = ways }) (omega arith) in
        let behind : reach l x w.patch w.side w.at + o - 1 ≡ reach l x w.patch w.side w.at + (o - 1) = omega arith in
        let s = spot_is l x laid len true is_w o_low (λ e. omega arith) in
        turning.on _ _ _ (turning.back (spot_dart l x w o true) _ s.0 (spot_related laid.paved len turning s.1))
        (rw (behind, ← place_is) over)
  ]

  module _ (nodes : AtNodes) where
    use_related : (w v : Slot) (o k : ℕ) → IsSlot l w → IsSlot l v → o < x (use_of l w).arc → k < x (use_of l v).arc
        → use_point l x (use_of l w) o ≡ use_point l x (use_of l v) k → R (slot_dart l x w o) (slot_dart l x v k)
    use_related w v o k is_w is_v o_low k_low same =
        search (rules, use_sort l x (use_of l w) o o_low, use_sort l x (use_of l v) k k_low, along_related)

    -- It holds for all darts that leave one point.
    pub point_related : (d e : CellDart) → IsDart l x d → IsDart l x e → dart_start l x d ≡ dart_start l x e → R d e
    point_related d e is_d is_e same = elim (sort_spot l x laid.paved len d is_d) [
      | inl i ↦
          let at = inner_from l x laid len d i in
          elim (sort_spot l x laid.paved len e is_e) [
            | inl j ↦
                let there = inner_from l x laid len e j in
                let one : dart d.patch (column_of d) (row_of d) south ≡ dart e.patch (column_of e) (row_of e) south =
                cc in
                turning.on d _ e (to_south laid.paved len turning d.patch d.i d.j d.way is_d i) (rw one
                (turning.back e _ is_e (to_south laid.paved len turning e.patch e.i e.j e.way is_e j)))
            | inr (v, k, c, r) ↦ absurd (use_not_inside l x (use_of l v) k d.patch (column_of d) (row_of d)
                (cc (spot_from l x laid len r)))
          ]
      | inr (w, o, b, s) ↦
          let at = spot_from l x laid len s in
          elim (sort_spot l x laid.paved len e is_e) [
            | inl j ↦ absurd (use_not_inside l x (use_of l w) o e.patch (column_of e) (row_of e)
                (cc (inner_from l x laid len e j)))
            | inr (v, k, c, r) ↦
                let there = spot_from l x laid len r in
                let far = turning.back e (slot_dart l x v k) is_e (spot_related laid.paved len turning r) in
                turning.on d _ e (spot_related laid.paved len turning s) (turning.on _ _ e
                (use_related w v o k s.is_slot r.is_slot s.low r.low (cc)) far)
          ]
    ]
