-- Each dart of a new cell runs along one edge, in its direction or against it, and no other dart does. Over it lies
-- the dart that runs the other way, or none where the arc stands once.
use Rattle.std.proofs.Common.{rules, ◌≡◌, ℕ, ◌+◌, ◌-◌, ◌<◌, Bool, true, false, not, cond, sym, ◌∙◌, ap, inl, inr}
use Rattle.std.proofs.{Common.arith, Common.◌⊎◌, Common.subst}
use Rattle.def_layout.specs.Gluings.{Way, south, east, north, west, Gluing, Slot, IsSlot, use_of}
use Rattle.def_layout.specs.{declared.tmesh.SideArc.SideArc, Surfaces.IsSurface, Surfaces.IsOtherSlot}
use Rattle.def_layout.specs.Lengths.{Lengths, reach, size, wide, high, AreLengths}
use Rattle.def_layout.specs.Cells.{CellDart, IsDart, dart, dart_along, slot_dart, prev, next}
use Rattle.def_written.specs.Points.{Point, use_point, use_over, offset_at, IsPoint}
use Rattle.def_written.specs.Edges.{Edge, on_arc, flat, steep, IsEdge, edge_start, edge_end}
use Rattle.written_laws.proofs.Rims.{inner_edge, IsWithin, over, rim_within}
use Rattle.written_laws.proofs.{Sides.over_is, Sides.size_some, Fans.alike_place, Fans.not_twice, NewDarts.next_is}
use Rattle.written_laws.proofs.Borders.{at_low, at_from, at_to, sees, IsOnBorder, at_is, place_at, spot_dart, from_is}
use Rattle.{std.specs.Prelude.◌==◌, def_written.specs.NewFaces.dart_start, def_written.specs.NewFaces.dart_end}

-- An edge, run along in its direction or against it.
pub record Course : Type 0 where
  pub edge : Edge
  pub ahead : Bool

abbrev pub course : (edge : Edge) (ahead : Bool) → Course
course e b = record { edge = e; ahead = b }

-- The other way along it.
abbrev pub against : (c : Course) → Course
against c = course c.edge (not c.ahead)

pub against_twice : (c : Course) → against (against c) ≡ c
against_twice c = ap (course c.edge) (not_twice c.ahead)

-- Whether an edge lies on an arc.
abbrev pub is_arc : (edge : Edge) → Bool
is_arc (on_arc a k) = true
is_arc (flat p i j) = false
is_arc (steep p i j) = false

-- The course of a dart inside a patch.
abbrev inner_ahead : (w : Way) → Bool
inner_ahead south = true
inner_ahead east = true
inner_ahead north = false
inner_ahead west = false

abbrev pub inner_course : (p i j : ℕ) (w : Way) → Course
inner_course p i j w = course (inner_edge p i j w) (inner_ahead w)

pub not_on_arc : (p i j : ℕ) (w : Way) {a k : ℕ} {b : Bool} → inner_course p i j w ≡ course (on_arc a k) b → ⊥
not_on_arc p i j w e = search rules

module _ (l : Gluing) (x : Lengths) where
  -- Where a course begins and ends.
  abbrev pub start_at : (c : Course) → Point
  start_at c = cond c.ahead (edge_start l x c.edge) (edge_end l x c.edge)

  abbrev pub end_at : (c : Course) → Point
  end_at c = cond c.ahead (edge_end l x c.edge) (edge_start l x c.edge)

  -- The other way round it begins where it ends.
  pub against_ends : (c : Course) → (start_at (against c) ≡ end_at c) × (end_at (against c) ≡ start_at c)
  against_ends c = search rules

  -- The course of an arc in use, o after its beginning.
  abbrev pub use_course : (u : SideArc) (o : ℕ) → Course
  use_course u o = course (on_arc u.arc (cond u.forward o (x u.arc - 1 - o))) u.forward

  -- The course of the border dart at a place of a side.
  abbrev pub border_course : (p : ℕ) (s : Way) (t : ℕ) → Course
  border_course p s t = use_course (l.use_at p s (use_over l x p s t)) (offset_at l x p s t)

  -- The course of a dart.
  abbrev pub course_by : (p i j : ℕ) (w : Way) → Course
  course_by p i j south = cond (j == 0) (border_course p south i) (inner_course p i j south)
  course_by p i j east = cond (i + 1 == wide l x p) (border_course p east j) (inner_course p i j east)
  course_by p i j north = cond (j + 1 == high l x p) (border_course p north (wide l x p - 1 - i))
      (inner_course p i j north)
  course_by p i j west = cond (i == 0) (border_course p west (high l x p - 1 - j)) (inner_course p i j west)

  abbrev pub course_of : (d : CellDart) → Course
  course_of d = course_by d.patch d.i d.j d.way

  pub within_course : (p i j : ℕ) (w : Way) → IsEdge l x (inner_edge p i j w) → course_by p i j w ≡ inner_course p i j w
  within_course p i j w h1 = search rules

  module _ (laid : IsSurface l) (len : AreLengths l x) where
    rim_course : (p : ℕ) (s : Way) (t : ℕ) → p < l.patches → t < size l x p s → course_of (dart_along l x p s t)
        ≡ border_course p s t
    rim_course p s h1 h2 = search (rules, size_some)

    pub at_course : (w : Slot) (o : ℕ) → IsSlot l w → o < x (use_of l w).arc → course_of (slot_dart l x w o)
        ≡ use_course (use_of l w) o
    at_course w o is less =
        let e : reach l x w.patch w.side w.at + o - reach l x w.patch w.side w.at ≡ o = omega arith in
        let low = at_low l x laid.paved len o is less in
        cc (rim_course w.patch w.side (place_at l x w o) is.patch_low low, over_is l x w o is less)

    pub border_is : {d : CellDart} {w : Slot} {o : ℕ} → IsOnBorder l x d w o → course_of d ≡ use_course (use_of l w) o
    border_is {w} {o} b = cc (at_course w o b.is_slot b.low)

    -- The course of a dart is one of an edge, and begins and ends where the dart does.
    pub course_is : {d : CellDart} → IsDart l x d → IsEdge l x (course_of d).edge
    course_is {d} is = elim (sees l x laid.paved len is) [
      | inl i ↦ rw (within_course d.patch d.i d.j d.way i) i
      | inr (w, o, b) ↦ search (rules, border_is b, laid.paved.arc_low w)
    ]

    course_ends : (d : CellDart) → IsDart l x d
        → (dart_start l x d ≡ start_at (course_of d)) × (dart_end l x d ≡ end_at (course_of d))
    course_ends d is = search (rules, sees l x laid.paved len is, within_course, by_way, border_is, at_from, at_to)
      where
        by_way : (u : SideArc) (o : ℕ) → o < x u.arc
            → (use_point l x u o ≡ start_at (use_course u o)) × (use_point l x u (o + 1) ≡ end_at (use_course u o))
        by_way u o low = search rules

    pub course_from : (d : CellDart) → IsDart l x d → dart_start l x d ≡ start_at (course_of d)
    course_from d is = (course_ends d is).0

    pub course_to : (d : CellDart) → IsDart l x d → dart_end l x d ≡ end_at (course_of d)
    course_to d is = (course_ends d is).1

    -- A course on an arc tells the slot and the place.
    use_once : (v w : Slot) (o k : ℕ) → IsSlot l v → IsSlot l w → o < x (use_of l v).arc → k < x (use_of l w).arc
        → use_course (use_of l v) o ≡ use_course (use_of l w) k → slot_dart l x v o ≡ slot_dart l x w k
    use_once v w o k is_v is_w o_low k_low same =
        let ways : (use_of l v).forward ≡ (use_of l w).forward = ap (λ (c : Course). c.ahead) same in
        let edges = ap (λ (c : Course). c.edge) same in
        let arcs : (use_of l v).arc ≡ (use_of l w).arc = cc edges in
        let slots : v ≡ w = laid.once v w is_v is_w (λ t. record { arc = arcs t; forward = ways t }) in
        search (rules, alike_place)

    -- Darts with one course are one.
    pub course_once : {d e : CellDart} → IsDart l x d → IsDart l x e → course_of d ≡ course_of e → d ≡ e
    course_once {d} {e} is_d is_e same =
        search (rules, sees l x laid.paved len is_d, sees l x laid.paved len is_e, within_course, border_is, use_once)

    -- Dart e runs the other way along the edge of d.
    pub record IsAcross (d e : CellDart) : Type 0 where
      pub is_dart : IsDart l x e
      pub course : course_of e ≡ against (course_of d)

module _ {l : Gluing} {x : Lengths} (laid : IsSurface l) (len : AreLengths l x) where
  -- The dart over an arc that stands twice.
  pub across_border : (w v : Slot) (o : ℕ) → IsSlot l w → IsOtherSlot l w v → o < x (use_of l w).arc
      → IsAcross l x laid len (slot_dart l x w o) (slot_dart l x v (x (use_of l w).arc - 1 - o))
  across_border w v o is other less = search (rules, at_course, at_is)

  -- The dart over an edge inside a patch.
  pub across_within : (d : CellDart) → IsWithin l x d → IsAcross l x laid len d (over d)
  across_within d i = search rules

  -- A dart on an arc that no slot uses the other way round.
  pub record IsAlone (d : CellDart) (w : Slot) (o : ℕ) : Type 0 where
    pub on_border : IsOnBorder l x d w o
    pub alone : (v : Slot) → ¬ IsOtherSlot l w v

  pub across_or_alone : (d : CellDart) → IsDart l x d
      → ((e : CellDart) × IsAcross l x laid len d e) ⊎ ((w : Slot) × (o : ℕ) × IsAlone d w o)
  across_or_alone d is = elim (sees l x laid.paved len is) [
    | inl i ↦ inl (over d, across_within d i)
    | inr b ↦ elim (laid.other b.0 b.2.is_slot) [
      | inl v ↦ inl (slot_dart l x v.0 (x (use_of l b.0).arc - 1 - b.1), search (rules, across_border, b.2.dart))
      | inr none ↦ inr (b.0, b.1, search rules)
    ]
  ]

  -- No dart runs the other way along such an arc.
  pub alone_not_across : {d : CellDart} (e : CellDart) {w : Slot} {o : ℕ} → IsAlone d w o → ¬ IsAcross l x laid len d e
  alone_not_across {d} e {w} {o} alone across =
      let here = across.course ∙ ap against (border_is l x laid len alone.on_border) in
      elim (sees l x laid.paved len across.is_dart) [
        | inl i ↦ not_on_arc e.patch e.i e.j e.way (sym (within_course l x e.patch e.i e.j e.way i) ∙ here)
        | inr (v, k, b) ↦ let there = sym (border_is l x laid len b) ∙ here in search rules
      ]

  -- A dart across begins where the other one ends.
  pub across_ends : {d e : CellDart} → IsDart l x d → IsAcross l x laid len d e → (dart_start l x e ≡ dart_end l x d)
      × (dart_end l x e ≡ dart_start l x d)
  across_ends {d} {e} is a = search (rules, course_from, course_to)

  -- Before the border dart at a place of an arc lies the other dart there, and before that the arc.
  pub rim_turn : (w : Slot) (o : ℕ) → IsSlot l w → o < x (use_of l w).arc → 0 < place_at l x w o
      → IsAcross l x laid len (prev (slot_dart l x w o)) (spot_dart l x w o true)
  rim_turn w o is less some =
      let r = rim_within laid.paved len _ _ _ is.patch_low some (at_low l x laid.paved len o is less) in
      subst (IsAcross l x laid len (prev (slot_dart l x w o))) r.1 (across_within _ r.0)

  pub spot_back : (w : Slot) (o : ℕ) → 0 < o → prev (spot_dart l x w o true) ≡ slot_dart l x w (o - 1)
  spot_back w o some = search rules

  pub border_turn : (w v : Slot) (o k : ℕ) → IsSlot l w → IsOtherSlot l w v → 0 < o → o < x (use_of l w).arc
      → k ≡ x (use_of l w).arc - o → IsAcross l x laid len (prev (spot_dart l x w o true)) (slot_dart l x v k)
  border_turn w v o k is other some less e =
      let there : x (use_of l w).arc - 1 - (o - 1) ≡ k = omega arith in
      rw (spot_back w o some) (rw there at (across_border w v (o - 1) is other (omega arith)))

-- Each edge of the new mesh belongs to a dart.

module _ (l : Gluing) (x : Lengths) (laid : IsSurface l) (len : AreLengths l x) where
  pub edge_dart : (e : Edge) → IsEdge l x e → (d : CellDart) × IsDart l x d × ((course_of l x d).edge ≡ e)
  edge_dart (on_arc a k) is =
      let f = laid.forward a is.0 in
      let less : k < x (use_of l f.0).arc = omega (arith, ap (λ (u : SideArc). x u.arc) f.2) in
      (slot_dart l x f.0 k, search (rules, at_is), cc (at_course l x laid len f.0 k f.1 less))
  edge_dart (flat p i j) is = (dart p i j south, search rules, search rules)
  edge_dart (steep p i j) is = (dart p i j west, search rules, search rules)

  -- The ends of an edge are points.
  pub edge_points : (e : Edge) → IsEdge l x e → IsPoint l x (edge_start l x e) × IsPoint l x (edge_end l x e)
  edge_points e is =
      let (d, is_d, same) = edge_dart e is in
      let from = rw (course_from l x laid len d is_d) at (from_is l x laid len d is_d) in
      let to = rw (course_to l x laid len d is_d) at (from_is l x laid len (next d) (next_is l x d is_d)) in
      rw (← same) (search (rules, from, to))
