-- Lengths that are open double no edge: lengths of at least 3, and multiples of lengths that double none.
use Rattle.std.proofs.Common.{rules, ◌≡◌, ◌≢◌, ◌⊎◌, ℕ, ◌+◌, ◌-◌, ◌<◌, ◌≤◌, false, refl, sym, ◌∙◌, inl}
use Rattle.std.proofs.Common.{inr, arith, zero, suc, ◌*◌, ◌/◌, ◌%◌, subst}
use Rattle.def_layout.specs.Gluings.{Way, south, east, north, west, side_after, Gluing, use_of}
use Rattle.def_layout.specs.{Surfaces.IsSurface, declared.tmesh.SideArc.SideArc}
use Rattle.def_layout.specs.Lengths.{Lengths, reach, size, wide, high, AreLengths}
use Rattle.def_layout.specs.Cells.{CellDart, IsDart, dart}
use Rattle.def_written.specs.Points.{inside, side_point, point, Point, node, along, use_point, use_over}
use Rattle.def_written.specs.{Points.offset_at, NewFaces.dart_start, NewFaces.dart_end}
use Rattle.def_written.specs.Edges.{Edge, on_arc, flat, steep, IsEdge, edge_start, edge_end}
use Rattle.written_laws.proofs.Sides.{slot, arc_last, use_inner, side_in, reach_low, first_slot, last_slot, last_reach}
use Rattle.written_laws.proofs.{Sides.place_on, Fans.alike_or_turned, Manifold.IsSimple, Manifold.ends_differ}
use Rattle.written_laws.proofs.Borders.{IsOpen, spoke, tip_column, tip_row, one_way, tip, Joins, point_sort, Inner, hub}
use Rattle.written_laws.proofs.Borders.{tip_low, spoke_joins, hub_edge, loop_at}
use Rattle.written_laws.proofs.Courses.{is_arc, course_of, border_course, course_once, across_ends}
use Rattle.written_laws.proofs.Rims.{point_north, point_west, point_east, before_after, no_turn}
use Rattle.{std.proofs.lemmas.Bool.cases_eq, std.proofs.Math.Nat.mul-le-mul_left}
use Rattle.sum_laws.proofs.Sums.{count_below_times}

-- A side is no shorter than the arcs.
side_least : {l : Gluing} {x : Lengths} → IsSurface l → AreLengths l x → {k : ℕ} → ((a : ℕ) → a < l.arcs → k ≤ x a)
    → (p : ℕ) (s : Way) → p < l.patches → k ≤ size l x p s
side_least {l} {x} laid len least p s low = grind (arith, reach_low l x (slot p s 0), laid.paved.arc_low (slot p s 0))

module _ {l : Gluing} {x : Lengths} (laid : IsSurface l) (len : AreLengths l x) (open_l : IsOpen l x) where
  side_two : (p : ℕ) (s : Way) → p < l.patches → 2 ≤ size l x p s
  side_two = side_least laid len open_l.two

  -- The points beside a corner of a patch differ.
  beside_corner : (p : ℕ) (s : Way) (t : ℕ) → p < l.patches → t + 1 ≡ size l x p s
      → side_point l x p s t ≢ side_point l x p (side_after s) 1
  beside_corner p s t p_low e same =
      let w = slot p s (l.many p s - 1) in
      let v = slot p (side_after s) 0 in
      let is_w = last_slot l x laid.paved len p s p_low in
      let is_v = first_slot l x laid.paved len p (side_after s) p_low in
      let place : t ≡ reach l x p s (l.many p s - 1) + (x (use_of l w).arc - 1) =
      omega (arith, last_reach l x laid.paved len p s p_low) in
      let w_side = side_in l x (x (use_of l w).arc - 1) is_w (omega arith) in
      let w_point = use_inner l x (use_of l w) (x (use_of l w).arc - 1) (omega arith) (omega arith) in
      let v_point = side_in l x 1 is_v (omega arith) ∙ use_inner l x (use_of l v) 1 (omega arith) (omega arith) in
      let arcs : (use_of l w).arc ≡ (use_of l v).arc = cc in
      elim (alike_or_turned (use_of l w).forward (use_of l v).forward) [
        | inl ways ↦ no_turn s (cc (laid.once w v is_w is_v (λ r. record { arc = arcs r; forward = ways r })))
        | inr ways ↦ laid.no_fold v is_v refl (rw (before_after s) (record { arc = sym arcs; turned = ways }))
      ]

  -- The tip l x of a spoke lies on this side of its patch.
  abbrev Far : (p i j : ℕ) (w : Way) → Type 0
  Far p i j east = i + 1 ≡ wide l x p
  Far p i j north = j + 1 ≡ high l x p
  Far p i j west = i ≡ 1
  Far p i j south = j ≡ 1

  tip_case : (p i j : ℕ) (w : Way) → Inner l x laid len p i j → Inner l x laid len p (tip_column i w) (tip_row j w)
      ⊎ Far p i j w
  tip_case p i j w h1 = search rules

  near_tips : (p i j : ℕ) (w v : Way) → Inner l x laid len p i j → Inner l x laid len p (tip_column i w) (tip_row j w)
      → tip l x p i j w ≡ tip l x p i j v → w ≡ v
  near_tips p i j w v n near same =
      let low = tip_low l x laid len p i j v n in
      let e = point_sort l x laid len p _ _ p _ _ n.0 low.0 low.1 (cc (hub l x laid len p _ _ near)) in
      one_way i j w v n.1.a_some n.1.b_some (sym e.1) (sym e.2)

  far_after : (p i j : ℕ) (w : Way) → Inner l x laid len p i j → Far p i j w → Far p i j (side_after w)
      → tip l x p i j w ≢ tip l x p i j (side_after w)
  far_after p i j east (low, n) e f same =
      let one : wide l x p - i ≡ 1 = omega arith in
      search (rules, beside_corner p east j, len.upright, point_east, point_north)
  far_after p i j north (low, n) e f same =
      let one : high l x p - j ≡ 1 = omega arith in
      search (rules, beside_corner p north (wide l x p - i), len.across, point_north, point_west l x laid len p j)
  far_after p i j _ (low, n) e f same = search (rules, beside_corner, point, point_east, east)

  east_west : (p i j : ℕ) → Inner l x laid len p i j → Far p i j east → Far p i j west
      → tip l x p i j east ≢ tip l x p i j west
  east_west p i j (low, n) e f same =
      let two : i + 1 ≡ 2 = omega arith in
      search (rules, open_l.across p j)

  north_south : (p i j : ℕ) → Inner l x laid len p i j → Far p i j north → Far p i j south
      → tip l x p i j north ≢ tip l x p i j south
  north_south p i j (low, n) e f same =
      let two : j + 1 ≡ 2 = omega arith in
      open_l.upright p i low (omega arith) n.a_some n.a_low (search rules)

  far_tips : (p i j : ℕ) (w v : Way) → Inner l x laid len p i j → Far p i j w → Far p i j v
      → tip l x p i j w ≡ tip l x p i j v → w ≡ v
  far_tips p i j east v n e f same = search (rules, far_after p i j east, far_after p i j south, east_west p i j)
  far_tips p i j north v n e f same = search (rules, far_after p i j east, far_after p i j north, north_south p i j)
  far_tips p i j west v n e f same = search (rules, far_after p i j north, far_after p i j west, east_west p i j)
  far_tips p i j south v n e f same = search (rules, far_after p i j west, far_after p i j south, north_south p i j)

  tips_differ : (p i j : ℕ) (w v : Way) → Inner l x laid len p i j → tip l x p i j w ≡ tip l x p i j v → w ≡ v
  tips_differ p i j w v n same =
      search (rules, tip_case p i j w, tip_case p i j v, near_tips p i j w v, near_tips p i j v w, far_tips)

  -- An edge inside a patch is a spoke.
  edge_spoke : (e : Edge) → IsEdge l x e → is_arc e ≡ false
      → (p : ℕ) × (i : ℕ) × (j : ℕ) × (w : Way) × Inner l x laid len p i j × (e ≡ spoke p i j w)
  edge_spoke (on_arc a k) is off = absurd cc
  edge_spoke (flat p zero j) is off = (p, 1, j, west, search (rules, side_two), refl)
  edge_spoke (flat p (suc i) j) is off = (p, suc i, j, east, search rules, refl)
  edge_spoke (steep p i zero) is off = (p, i, 1, south, search (rules, side_two), refl)
  edge_spoke (steep p i (suc j)) is off = (p, i, suc j, north, search rules, refl)

  -- An edge with the ends of one inside a patch is that edge.
  with_spoke : (g h : Edge) → IsEdge l x g → IsEdge l x h → is_arc h ≡ false
      → Joins l x g (edge_start l x h) (edge_end l x h) → g ≡ h
  with_spoke g h is_g is_h off both =
      let (p, i, j, w, n, is) = edge_spoke h is_h off in
      let on = rw is at both in
      let joins = elim (spoke_joins l x laid len p i j w n) as (λ t. Joins l x g (inside p i j) (tip l x p i j w)) [
        | inl s ↦ rw (s.0, s.1) at on
        | inr s ↦ search (rules, on)
      ] in
      let hub = hub_edge l x laid len g p i j _ is_g joins in
      cc (tips_differ p i j w hub.0 n hub.2)

  -- Edges with the same ends are one.
  joins_once : (e f : Edge) → IsEdge l x e → IsEdge l x f → Joins l x e (edge_start l x f) (edge_end l x f) → e ≡ f
  joins_once (on_arc a k) (on_arc b m) is_e is_f joins = search (rules, joins)
  joins_once e (on_arc b m) is_e is_f joins = sym (with_spoke (on_arc b m) e is_f is_e refl (search rules))
  joins_once e f is_e is_f joins = with_spoke e f is_e is_f refl joins

  no_loop : (e : Edge) → IsEdge l x e → edge_start l x e ≢ edge_end l x e
  no_loop (on_arc a k) is same = search rules
  no_loop e is same = let s = edge_spoke e is refl in loop_at l x laid len e _ _ _ _ s.4 s.5 same

  pub simple_open : IsSimple l x
  simple_open = search (rules, joins_once, inl, inr, no_loop)

-- The k-fold lengths.
abbrev pub scale : (k : ℕ) (y : Lengths) → Lengths
scale k y a = k * y a

-- A point where the lengths are doubled.
abbrev double : (a : Point) → Point
double (node n) = node n
double (along a k) = along a (2 * k)
double (inside p i j) = inside p (2 * i) (2 * j)

-- The point in the middle of an edge of an arc, where the lengths are doubled.
abbrev middle : (e : Edge) → Point
middle (on_arc a k) = along a (2 * k + 1)
middle (flat p i j) = node 0
middle (steep p i j) = node 0

module _ (l : Gluing) (y : Lengths) where
  pub reach_scale : (k p : ℕ) (s : Way) (m : ℕ) → reach l (scale k y) p s m ≡ k * reach l y p s m
  reach_scale k p s m = count_below_times k (λ j. y (l.use_at p s j).arc) m

  pub size_scale : (k p : ℕ) (s : Way) → size l (scale k y) p s ≡ k * size l y p s
  size_scale k p s = reach_scale k p s _

  pub lengths_scale : (k : ℕ) → 0 < k → AreLengths l y → AreLengths l (scale k y)
  lengths_scale k some len = search (rules, size_scale)

  use_double : (u : SideArc) (o : ℕ) → o ≤ y u.arc → use_point l (scale 2 y) u (2 * o) ≡ double (use_point l y u o)
  use_double u o le = search rules

  side_half : (p : ℕ) (s : Way) (t b : ℕ) → p < l.patches → t < size l y p s → b < 2
      → side_point l (scale 2 y) p s (2 * t + b)
      ≡ use_point l (scale 2 y) (l.use_at p s (use_over l y p s t)) (2 * offset_at l y p s t + b)
  side_half p s t b low less b_low =
      let on = place_on l y p s t low less in
      let e : 2 * t + b ≡ reach l (scale 2 y) p s (use_over l y p s t) + (2 * offset_at l y p s t + b) =
      omega (arith, reach_scale 2 p s (use_over l y p s t)) in
      cc (side_in l (scale 2 y) (2 * offset_at l y p s t + b) on.is_slot (omega (arith, on.inside)))

  side_double : (p : ℕ) (s : Way) (t : ℕ) → p < l.patches → t < size l y p s
      → side_point l (scale 2 y) p s (2 * t) ≡ double (side_point l y p s t)
  side_double p s t low less =
      let on = place_on l y p s t low less in
      search (rules, side_half p s t 0, use_double, on.inside)

  side_odd : (p : ℕ) (s : Way) (t : ℕ) → p < l.patches → t < size l y p s
      → side_point l (scale 2 y) p s (2 * t + 1) ≡ middle (border_course l y p s t).edge
  side_odd p s t low less = search (rules, place_on, side_half)

  middle_same : (a k b m : ℕ) → along a (2 * k + 1) ≡ along b (2 * m + 1) → on_arc a k ≡ on_arc b m
  middle_same a k b m s = search rules

  module _ (laid : IsSurface l) (len : AreLengths l y) (simple : IsSimple l y) where
    z_len : AreLengths l (scale 2 y)
    z_len = lengths_scale 2 (omega arith) len

    -- Two darts of different ways in one cell do not run along one edge from side to side.
    no_shared_edge : {d e : CellDart} → IsDart l y d → IsDart l y e → d ≢ e → dart_start l y e ≢ dart_end l y d
        → (course_of l y e).edge ≢ (course_of l y d).edge
    no_shared_edge {d} {e} is_d is_e apart ends edges =
        let ways = alike_or_turned (course_of l y d).ahead (course_of l y e).ahead in
        search (rules, ways, course_once l y laid len is_d is_e, across_ends laid len {d = d} {e = e} is_d)

    -- Where opposite sides meet at a point, they meet at a point or run along one edge at half of the lengths.
    opposite : (p : ℕ) (s r : Way) (t n m : ℕ) → p < l.patches → size l y p s ≡ n → size l y p r ≡ n → m ≡ 2 * n
        → 0 < t → t < m → side_point l (scale 2 y) p s t ≡ side_point l (scale 2 y) p r (m - t)
        → (t % 2 ≡ 0) × (side_point l y p s (t / 2) ≡ side_point l y p r (n - t / 2))
        ⊎ (t % 2 ≡ 1) × ((border_course l y p s (t / 2)).edge ≡ (border_course l y p r (n - 1 - t / 2)).edge)
    opposite p s r t n m low one other twice some less same = elim (cases_eq (t % 2) 0) [
      | inl e ↦
          let half : 2 * (t / 2) ≡ t = omega arith in
          let rest : m - t ≡ 2 * (n - t / 2) = omega arith in
          inl (search (rules, side_double))
      | inr o ↦
          let half : 2 * (t / 2) + 1 ≡ t = omega arith in
          let rest : m - t ≡ 2 * (n - 1 - t / 2) + 1 = omega arith in
          inr (search (rules, middle_same, side_odd))
    ]

    across_open : (p j : ℕ) → p < l.patches → wide l (scale 2 y) p ≡ 2 → 0 < j → j < high l (scale 2 y) p
        → point l (scale 2 y) p 0 j ≢ point l (scale 2 y) p 2 j
    across_open p j low two some less same =
        let one : wide l y p ≡ 1 = omega (arith, size_scale 2 p south) in
        let rows = size_scale 2 p west in
        let is : j / 2 < high l y p → (w : Way) → IsDart l y (dart p 0 (j / 2) w) = search rules in
        let sides = sym (point_east l _ laid z_len p j low (sym two) (omega arith)) ∙ sym same
        ∙ point_west l _ laid z_len p j low (omega arith) in
        let at = is (omega arith) in
        let apart = ends_differ laid len simple (at south) in
        elim (opposite p east west j _ _ low (len.upright p low) refl rows some less sides) [
          | inl (e, points) ↦ apart (search rules)
          | inr (o, edges) ↦ no_shared_edge (at west) (at east) (search rules) (λ s. apart (sym s)) (search rules)
        ]

    upright_open : (p i : ℕ) → p < l.patches → high l (scale 2 y) p ≡ 2 → 0 < i → i < wide l (scale 2 y) p
        → point l (scale 2 y) p i 0 ≢ point l (scale 2 y) p i 2
    upright_open p i low two some less same =
        let one : high l y p ≡ 1 = omega (arith, size_scale 2 p west) in
        let columns = size_scale 2 p south in
        let is : i / 2 < wide l y p → (w : Way) → IsDart l y (dart p (i / 2) 0 w) = search rules in
        let at = is (omega arith) in
        let apart = ends_differ laid len simple (at west) in
        elim (opposite p _ _ i _ _ low refl (len.across p low) columns some less
        (same ∙ point_north l _ laid z_len p i low (sym two))) [
          | inl (e, points) ↦ apart (cc (point_north l y laid len p _ low (sym one)))
          | inr (o, edges) ↦ search (rules, no_shared_edge (at south) (at north), ends_differ laid len simple (at east))
        ]

    simple_twice : IsSimple l (scale 2 y)
    simple_twice = simple_open laid z_len (record {
      two = λ a low. omega (arith, len.some a low);
      arcs_open = λ a low e s. grind (arith, simple.no_loop (on_arc a 0) (low, omega arith));
      across = across_open;
      upright = upright_open;
    })

module _ {l : Gluing} {x : Lengths} (laid : IsSurface l) (len : AreLengths l x) where
  -- Lengths of at least 3 double no edge.
  pub simple_three : ((a : ℕ) → a < l.arcs → 3 ≤ x a) → IsSimple l x
  simple_three three = simple_open laid len (grind (arith, side_least laid len three))

-- Multiples of lengths that double no edge.
pub simple_multiple : (l : Gluing) (y : Lengths) → IsSurface l → AreLengths l y → IsSimple l y → (k : ℕ) → 0 < k
    → IsSimple l (scale k y)
simple_multiple l y laid len simple zero some = absurd (omega arith)
simple_multiple l y laid len simple (suc zero) some =
    let one : (a : ℕ) → y a ≡ 1 * y a = λ a. omega arith in subst (IsSimple l) (λ t a. one a t) simple
simple_multiple l y laid len simple (suc (suc zero)) some = simple_twice l y laid len simple
simple_multiple l y laid len simple (suc (suc (suc k))) some = simple_three laid (lengths_scale l y _ some len)
    (λ a low. let one = len.some a low in omega (arith, mul-le-mul_left (suc (suc (suc k))) one))
