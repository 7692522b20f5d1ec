-- Border darts by the slots whose arcs they lie on, and the darts at a place of an arc.
use Rattle.std.proofs.Common.{rules, ◌≡◌, ◌≢◌, ◌⊎◌, ℕ, ◌+◌, ◌-◌, ◌<◌, ◌≤◌, Bool, true, false, refl, ◌∙◌}
use Rattle.def_layout.specs.Gluings.{Way, side_before, Gluing, Slot, IsSlot, AreReverse, use_of, slot_before, south}
use Rattle.def_layout.specs.Gluings.{east, north, west}
use Rattle.def_layout.specs.{declared.tmesh.SideArc.SideArc, Surfaces.HasWholeSides, Surfaces.IsSurface}
use Rattle.def_layout.specs.Lengths.{Lengths, reach, size, AreLengths, wide, high}
use Rattle.def_layout.specs.Cells.{CellDart, IsDart, next, dart_along, slot_dart}
use Rattle.def_written.specs.Points.{inside, IsPoint, use_point, use_over, offset_at, side_point, Point, point}
use Rattle.def_written.specs.Edges.{Edge, on_arc, flat, steep, IsEdge, edge_start, edge_end}
use Rattle.written_laws.proofs.Sides.{slot, use_sort, place_on, side_in, side_upto, reach_low}
use Rattle.written_laws.proofs.{Rims.point_inside, NewDarts.prev_is}
use Rattle.written_laws.proofs.Rims.{column_of, row_of, IsWithin, rim_is, rim_from, rim_to, on_rim, IsInner, inner_at}
use Rattle.{std.proofs.Common.inl, std.proofs.Common.inr, std.proofs.Common.arith}
use Rattle.{def_written.specs.NewFaces.dart_start, def_written.specs.NewFaces.dart_end}

-- The place on its side that lies o after the beginning of a slot's arc.
abbrev pub place_at : (l : Gluing) (x : Lengths) (w : Slot) (o : ℕ) → ℕ
place_at l x w o = reach l x w.patch w.side w.at + o

-- The darts that leave it: the border dart, and the one next to the border dart before.
abbrev pub spot_dart : (l : Gluing) (x : Lengths) (w : Slot) (o : ℕ) (behind : Bool) → CellDart
spot_dart l x w o false = slot_dart l x w o
spot_dart l x w o true = next (dart_along l x w.patch w.side (place_at l x w o - 1))

module _ (l : Gluing) (x : Lengths) where
  -- The points of an arc that is used the other way round.
  pub use_back : (u v : SideArc) → AreReverse u v → (k : ℕ) → k ≤ x u.arc
      → use_point l x v k ≡ use_point l x u (x u.arc - k)
  use_back u v rev k le = search rules

  pub use_not_inside : (u : SideArc) (o p i j : ℕ) → use_point l x u o ≢ inside p i j
  use_not_inside u o p i j e = search rules

  pub side_not_inside : (q : ℕ) (s : Way) (t p i j : ℕ) → side_point l x q s t ≢ inside p i j
  side_not_inside q s t p i j e = use_not_inside (l.use_at q s (use_over l x q s t)) (offset_at l x q s t) p i j e

  -- A dart leaves place o of a slot's arc: it is one of the two there.
  pub record IsSpot (d : CellDart) (w : Slot) (o : ℕ) (b : Bool) : Type 0 where
    pub is_slot : IsSlot l w
    pub low : o < x (use_of l w).arc
    pub dart : d ≡ spot_dart l x w o b
    pub behind : b ≡ true → 0 < place_at l x w o

  -- A dart on the border of a patch, o after the beginning of a slot's arc.
  abbrev pub IsOnBorder : (d : CellDart) (w : Slot) (o : ℕ) → Type 0
  IsOnBorder d w o = IsSpot d w o false

  module _ (paved : HasWholeSides l) (len : AreLengths l x) where
    -- The border dart o after the beginning of a slot's arc.
    pub at_low : {w : Slot} (o : ℕ) → IsSlot l w → o < x (use_of l w).arc → place_at l x w o < size l x w.patch w.side
    at_low {w} o is less = omega (arith, reach_low l x w is)

    pub at_is : (w : Slot) (o : ℕ) → IsSlot l w → o < x (use_of l w).arc → IsDart l x (slot_dart l x w o)
    at_is w o is less = rim_is paved len w.patch w.side (place_at l x w o) is.patch_low (at_low o is less)

    -- The slot before another one.
    pub before_is : (w : Slot) → IsSlot l w → IsSlot l (slot_before l w.patch w.side w.at)
    before_is w is = search rules

    -- Each dart lies inside its patch or on an arc,
    pub sees : {d : CellDart} → IsDart l x d → IsWithin l x d ⊎ ((w : Slot) × (o : ℕ) × IsOnBorder d w o)
    sees {d} is = elim (on_rim paved len d.patch d.i d.j d.way is) [
      | inl i ↦ inl i
      | inr (s, t, less, e) ↦ let on = place_on l x d.patch s t is.patch_low less in search rules
    ]

    -- and leaves a grid point inside its patch or a place of an arc.
    pub sort_spot : (d : CellDart) → IsDart l x d → IsInner paved len d.patch (column_of d) (row_of d)
        ⊎ ((w : Slot) × (o : ℕ) × (b : Bool) × IsSpot d w o b)
    sort_spot d is = elim (sees is) [
      | inr (w, o, b) ↦ inr (w, o, false, search rules)
      | inl i ↦ elim (on_rim paved len d.patch d.i d.j (side_before d.way) (prev_is l x d is)) [
        | inl before ↦ inl (inner_at paved len d.patch d.i d.j d.way i before)
        | inr (s, t, less, e) ↦
            let on = place_on l x d.patch s (t + 1) is.patch_low (search rules) in
            let back : t ≡ reach l x d.patch s (use_over l x d.patch s (t + 1)) + offset_at l x d.patch s (t + 1) - 1 =
            omega (arith, on.place) in
            let b : IsSpot d (slot d.patch s (use_over l x d.patch s (t + 1))) (offset_at l x d.patch s (t + 1)) true =
            search rules in inr (_, _, _, b)
      ]
    ]

  module _ (laid : IsSurface l) (len : AreLengths l x) where
    pub at_from : (w : Slot) (o : ℕ) → IsSlot l w → o < x (use_of l w).arc
        → dart_start l x (slot_dart l x w o) ≡ use_point l x (use_of l w) o
    at_from w o is less = search (rules, rim_from, at_low, side_in)

    pub at_to : (w : Slot) (o : ℕ) → IsSlot l w → o < x (use_of l w).arc
        → dart_end l x (slot_dart l x w o) ≡ use_point l x (use_of l w) (o + 1)
    at_to w o is less = rim_to l x laid len w.patch w.side (place_at l x w o) is.patch_low (at_low laid.paved len o is
        less) ∙ side_upto l x laid len w (o + 1) (place_at l x w o + 1) is (omega arith) (omega arith)

    -- The darts at a place leave it.
    pub spot_from : {d : CellDart} {w : Slot} {o : ℕ} {b : Bool} → IsSpot d w o b
        → dart_start l x d ≡ use_point l x (use_of l w) o
    spot_from {d} {w} {o} {b} s =
        let low = at_low laid.paved len o s.is_slot s.low in
        let to = rim_to l x laid len w.patch w.side (place_at l x w o - 1) in
        search (rules, s.behind, at_from w o, to, side_in l x o s.is_slot s.low)

    pub spot_is : {w : Slot} {o : ℕ} (b : Bool) → IsSlot l w → o < x (use_of l w).arc → (b ≡ true → 0 < place_at l x w
        o) → IsDart l x (spot_dart l x w o b) × IsSpot (spot_dart l x w o b) w o b
    spot_is {w} {o} b is less some = grind (arith, at_is laid.paved len w o)

    pub inner_from : (d : CellDart) → IsInner laid.paved len d.patch (column_of d) (row_of d)
        → dart_start l x d ≡ inside d.patch (column_of d) (row_of d)
    inner_from d i = point_inside l x laid len d.patch (column_of d) (row_of d) i.a_some i.a_low i.b_some i.b_low

    -- Darts leave points.
    pub from_is : (d : CellDart) → IsDart l x d → IsPoint l x (dart_start l x d)
    from_is d is = elim (sort_spot laid.paved len d is) [
      | inl i ↦ rw (inner_from d i) (search rules)
      | inr (w, o, b, s) ↦ rw (spot_from s) (search (rules, use_sort))
    ]

-- The edges at an inner point of a patch, by the directions in which they leave it.

-- All lengths are at least 2, no arc of length 2 has equal ends, and no two points of a patch that is 2 wide or high
-- are the same across it.
pub record IsOpen (l : Gluing) (x : Lengths) : Type 0 where
  pub two : (a : ℕ) → a < l.arcs → 2 ≤ x a
  pub arcs_open : (a : ℕ) → a < l.arcs → x a ≡ 2 → l.first a ≢ l.last a
  pub across : (p j : ℕ) → p < l.patches → wide l x p ≡ 2 → 0 < j → j < high l x p → point l x p 0 j ≢ point l x p 2 j
  pub upright : (p i : ℕ) → p < l.patches → high l x p ≡ 2 → 0 < i → i < wide l x p → point l x p i 0 ≢ point l x p i 2

-- The edge that leaves an inner point of a patch in a direction.
abbrev pub spoke : (p i j : ℕ) (w : Way) → Edge
spoke p i j east = flat p i j
spoke p i j north = steep p i j
spoke p i j west = flat p (i - 1) j
spoke p i j south = steep p i (j - 1)

-- The grid point at its other end.
abbrev pub tip_column : (i : ℕ) (w : Way) → ℕ
tip_column i east = i + 1
tip_column i north = i
tip_column i west = i - 1
tip_column i south = i

abbrev pub tip_row : (j : ℕ) (w : Way) → ℕ
tip_row j east = j
tip_row j north = j + 1
tip_row j west = j
tip_row j south = j - 1

-- Directions that lead to one place are one.
pub one_way : (i j : ℕ) (w v : Way) → 0 < i → 0 < j → tip_column i w ≡ tip_column i v → tip_row j w ≡ tip_row j v
    → w ≡ v
one_way i j w v h1 h2 h3 h4 = search rules

pub no_tip_at_hub : {i j : ℕ} (w : Way) → 0 < i → 0 < j → tip_column i w ≡ i → tip_row j w ≡ j → ⊥
no_tip_at_hub w i_some j_some c r = search rules

module _ (l : Gluing) (x : Lengths) where
  abbrev pub tip : (p i j : ℕ) (w : Way) → Point
  tip p i j w = point l x p (tip_column i w) (tip_row j w)

  -- The ends of an edge are these two points.
  abbrev pub Joins : (e : Edge) (a b : Point) → Type 0
  Joins e a b = ((edge_start l x e ≡ a) × (edge_end l x e ≡ b)) ⊎ ((edge_start l x e ≡ b) × (edge_end l x e ≡ a))

  module _ (laid : IsSurface l) (len : AreLengths l x) where
    -- The grid point that lies inside.
    pub point_sort : (q k m p i j : ℕ) → q < l.patches → k ≤ wide l x q → m ≤ high l x q
        → point l x q k m ≡ inside p i j → (q ≡ p) × (k ≡ i) × (m ≡ j)
    point_sort q k m p i j q_low k_le m_le e = search (rules, side_not_inside)

    abbrev pub Inner : (p i j : ℕ) → Type 0
    Inner p i j = (p < l.patches) × IsInner laid.paved len p i j

    pub hub : (p i j : ℕ) → Inner p i j → point l x p i j ≡ inside p i j
    hub p i j n = point_inside l x laid len p i j n.1.a_some n.1.a_low n.1.b_some n.1.b_low

    pub tip_low : (p i j : ℕ) (w : Way) → Inner p i j → (tip_column i w ≤ wide l x p) × (tip_row j w ≤ high l x p)
    tip_low p i j w n = search rules

    pub spoke_joins : (p i j : ℕ) (w : Way) → Inner p i j → Joins (spoke p i j w) (inside p i j) (tip p i j w)
    spoke_joins p i j w n = search (rules, hub)

    -- An edge with an end inside a patch is a spoke from there.
    pub hub_edge : (f : Edge) (p i j : ℕ) (t : Point) → IsEdge l x f → Joins f (inside p i j) t
        → (w : Way) × (f ≡ spoke p i j w) × (t ≡ tip p i j w)
    hub_edge (on_arc a k) p i j t is s = absurd (search rules)
    hub_edge (flat q k m) p i j t is (inl s) =
        let e = point_sort q k m p i j is.0 (omega (arith, is.1)) (omega (arith, is.3)) s.0 in (east, cc, cc)
    hub_edge (flat q k m) p i j t is (inr s) =
        let e = point_sort q (k + 1) m p i j is.0 (omega (arith, is.1)) (omega (arith, is.3)) s.1 in
        let c : k ≡ i - 1 = omega (arith, e.1) in (west, cc, cc)
    hub_edge (steep q k m) p i j t is (inl s) =
        let e = point_sort q k m p i j is.0 (omega (arith, is.2)) (omega (arith, is.3)) s.0 in (north, cc, cc)
    hub_edge (steep q k m) p i j t is (inr s) =
        let e = point_sort q k (m + 1) p i j is.0 (omega (arith, is.2)) (omega (arith, is.3)) s.1 in
        let c : m ≡ j - 1 = omega (arith, e.2) in (south, cc, cc)

    -- A spoke has no equal ends.
    pub loop_at : (e : Edge) (p i j : ℕ) (w : Way) → Inner p i j → e ≡ spoke p i j w → edge_start l x e ≢ edge_end l x e
    loop_at e p i j w n is same =
        let at_tip : tip p i j w ≢ inside p i j = search (rules, tip_low, point_sort, no_tip_at_hub) in
        elim (spoke_joins p i j w n) [ inl s ↦ at_tip (cc) | inr s ↦ at_tip (cc) ]
