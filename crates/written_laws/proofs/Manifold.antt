-- Meshes in which no edge is doubled, and what two points then tell of an edge between them.
use Rattle.std.proofs.Common.{rules, ◌≡◌, ◌≢◌, true, false, sym, ◌∙◌, ap, ℕ, zero, suc, refl, inl, inr}
use Rattle.std.proofs.Common.{◌<◌, Some, None, arith}
use Rattle.def_layout.specs.Gluings.{Gluing, Way, south, east, north, west, side_after, Slot}
use Rattle.def_layout.specs.{Lengths.Lengths, Lengths.AreLengths, Cells.CellDart, Cells.IsDart, Cells.prev}
use Rattle.def_layout.specs.{Cells.slot_dart, Cells.next, Surfaces.IsSurface, Fans.HasFans}
use Rattle.def_written.specs.NewFaces.{dart_start, new_faces, dart_end, face_count, dart_of, cell_vertex}
use Rattle.def_written.specs.{Edges.Edge, Edges.IsEdge, Edges.edge_start, Edges.edge_end, Numbers.vertex_number}
use Rattle.written_laws.proofs.Courses.{Course, course, against, start_at, end_at, against_ends, across_ends}
use Rattle.written_laws.proofs.Courses.{across_within, across_border, IsAlone, alone_not_across, IsAcross, course_of}
use Rattle.written_laws.proofs.Courses.{course_is, course_from, course_to, course_once, against_twice, not_on_arc}
use Rattle.written_laws.proofs.Courses.{within_course, border_is}
use Rattle.written_laws.proofs.NewDarts.{dart_number, dart_low, number_from, number_to, prev_number, prev_is, next_is}
use Rattle.written_laws.proofs.NewDarts.{next_number, at_number, turn, way_of, turn_way, corner_is, cell_is, faces_long}
use Rattle.written_laws.proofs.{Fans.not_self, Fans.IsTurning, Fans.at_nodes, Fans.point_related, Fans.corner_slots}
use Rattle.written_laws.proofs.{Borders.at_is, Borders.from_is, Borders.sees, Rims.prev_next, Rims.next_prev}
use Rattle.written_laws.proofs.{Rims.inner_edge, EdgeNumbers.number_same}
use Rattle.def_mesh.specs.Manifold.{Chain, HasOneFan, IsManifold, IsRepeatFree, HasEdgesOnce}
use Rattle.def_mesh.specs.{Darts.from_of, Darts.twin_of}
use Rattle.mesh_laws.proofs.Chains.{meet_from, chain_join, chain_back, twin_found, twin_none}

-- No two edges have the same ends, and no edge has equal ends.
pub record IsSimple (l : Gluing) (x : Lengths) : Type 0 where
  pub same : (e f : Edge) → IsEdge l x e → IsEdge l x f → edge_start l x e ≡ edge_start l x f
      → edge_end l x e ≡ edge_end l x f → e ≡ f
  pub crossed : (e f : Edge) → IsEdge l x e → IsEdge l x f → edge_start l x e ≡ edge_end l x f
      → edge_end l x e ≡ edge_start l x f → e ≡ f
  pub no_loop : (e : Edge) → IsEdge l x e → edge_start l x e ≢ edge_end l x e

-- That is to say that a course is told by its ends.
abbrev pub TellCourses : (l : Gluing) (x : Lengths) → Type 0
TellCourses l x = (c k : Course) → IsEdge l x c.edge → IsEdge l x k.edge
    → start_at l x c ≡ start_at l x k → end_at l x c ≡ end_at l x k → c ≡ k

pub simple_by : {l : Gluing} {x : Lengths} → TellCourses l x → IsSimple l x
simple_by one = record {
  same = λ e f is_e is_f s t. ap (λ (c : Course). c.edge) (one (course e true) (course f true) is_e is_f s t);
  crossed = λ e f is_e is_f s t. ap (λ (c : Course). c.edge) (one (course e true) (course f false) is_e is_f s t);
  no_loop = λ e is s. not_self _ (ap (λ (c : Course). c.ahead) (one (course e true) (course e false) is is s (sym s)));
}

module _ {l : Gluing} {x : Lengths} (simple : IsSimple l x) where
  pub one_course : TellCourses l x
  one_course c k is_c is_k starts ends = search (
    rules,
    simple.same c.edge k.edge is_c is_k,
    simple.crossed c.edge k.edge is_c is_k,
    simple.no_loop c.edge is_c,
  )

  -- A course from the end to the start of another runs against it.
  pub reversed : (c k : Course) → IsEdge l x c.edge → IsEdge l x k.edge → start_at l x k ≡ end_at l x c
      → end_at l x k ≡ start_at l x c → k ≡ against c
  reversed c k is_c is_k starts ends =
      let a = against_ends l x c in one_course k (against c) is_k is_c (starts ∙ sym a.0) (ends ∙ sym a.1)

-- Darts that follow each other round a cell inside a patch run along different edges.
flat_or_steep : (p i j : ℕ) (w : Way) → inner_edge p i j (side_after w) ≢ inner_edge p i j w
flat_or_steep p i j w e = search rules

-- Where no edge is doubled, the new faces are a manifold, in which twins run the other way along an edge.

module _ {l : Gluing} {x : Lengths} (laid : IsSurface l) (len : AreLengths l x) where
  -- A chain of new darts leads from d to e.
  abbrev AreJoined : (d e : CellDart) → Type 0
  AreJoined d e = (n : ℕ) × Chain (new_faces l x) (dart_number l x d) (dart_number l x e) n

  -- One edge belongs to the corners of a dart and of the one over the dart before it.
  join : {d e : CellDart} → IsDart l x d → IsAcross l x laid len (prev d) e → AreJoined d e
  join {d} {e} is a =
      let ends = across_ends laid len (prev_is l x d is) a in
      let before = ap (from_of (new_faces l x)) (prev_number l x d) ∙ number_from l x (prev d) (prev_is l x d is) in
      let to = number_to l x e a.is_dart ∙ ap (vertex_number l x) ends.1 ∙ sym before in
      let leaves : from_of (new_faces l x) (dart_number l x e) ≡ from_of (new_faces l x) (dart_number l x d) =
      cc (number_from l x d is, next_prev d, number_from l x e a.is_dart) in
      (1, (dart_number l x d, refl, dart_low l x e a.is_dart, sym leaves, meet_from _ _ _ _ (inr (inl to))))

  joins : IsTurning l x AreJoined
  joins = record {
    self = λ d e same. (zero, ap (dart_number l x) same);
    on = λ d c e a b. chain_join _ _ _ _ _ _ a.1 b.1;
    back = λ d e is a. chain_back _ _ _ _ (dart_low l x d is) a.1;
    inner = λ d is i. join is (across_within laid len (prev d) i);
    over = search (rules, join, next_is l x, at_is l x laid.paved len, prev_next, across_border laid len);
  }

  -- New darts that leave one vertex leave one point.
  starts_same : {d e : CellDart} → IsDart l x d → IsDart l x e → from_of (new_faces l x) (dart_number l x d)
      ≡ from_of (new_faces l x) (dart_number l x e) → dart_start l x d ≡ dart_start l x e
  starts_same {d} {e} is_d is_e same = search (rules, number_same, from_is, number_from)

  pub one_fan : HasFans l → (v : ℕ) → HasOneFan (new_faces l x) v
  one_fan fans v d e d_low e_low d_from e_from =
      let a = at_number l x laid len d d_low in
      let b = at_number l x laid len e e_low in
      let joined = point_related laid len joins (at_nodes laid len joins fans) a.0 b.0 a.1 b.1
      (starts_same a.1 b.1 (cc)) in search rules

  module _ (simple : IsSimple l x) where
    -- Darts with the same ends are one, and those with exchanged ends run against each other.
    same_dart : {d e : CellDart} → IsDart l x d → IsDart l x e → dart_start l x d ≡ dart_start l x e
        → dart_end l x d ≡ dart_end l x e → d ≡ e
    same_dart {d} {e} is_d is_e starts ends =
        course_once l x laid len is_d is_e (one_course simple _ _ (course_is l x laid len is_d)
        (course_is l x laid len is_e) (cc (course_from l x laid len d is_d, course_from l x laid len e is_e))
        (cc (course_to l x laid len d is_d, course_to l x laid len e is_e)))

    turned : {d e : CellDart} → IsDart l x d → IsDart l x e → dart_start l x e ≡ dart_end l x d
        → dart_end l x e ≡ dart_start l x d → course_of l x e ≡ against (course_of l x d)
    turned {d} {e} is_d is_e starts ends = search (rules, reversed simple, course_is, course_from, course_to)

    pub ends_differ : {d : CellDart} → IsDart l x d → dart_start l x d ≢ dart_end l x d
    ends_differ {d} is same = not_self _ (ap (λ (c : Course). c.ahead) (turned is is same (sym same)))

    pub opposite_differ : {d : CellDart} → IsDart l x d → dart_start l x d ≢ dart_end l x (next d)
    opposite_differ {d} is same =
        let is_next = next_is l x d is in
        let back = turned is is_next refl (sym same) in
        elim (sees l x laid.paved len is) [
          | inl i ↦ search (rules, within_course, sees, flat_or_steep, not_on_arc, against_twice, border_is)
          | inr (w, o, a) ↦
              let here = border_is l x laid len a in
              elim (sees l x laid.paved len is_next) [
                | inl j ↦ search (rules, not_on_arc, within_course)
                | inr (v, k, b) ↦
                    grind (arith, border_is l x laid len b, laid.no_fold v b.is_slot, corner_slots laid.paved len d a b)
              ]
        ]

    corners_differ : (f : ℕ) → f < face_count l x → (i j : ℕ) → i < j → j < 4
        → cell_vertex l x f (way_of i) ≢ cell_vertex l x f (way_of j)
    corners_differ f low = at
      where
        is : (w : Way) → IsDart l x (dart_of l x f w)
        is w = cell_is l x laid len f w low

        side : (w v : Way) → dart_start l x (dart_of l x f w) ≢ dart_start l x (dart_of l x f v)
            → cell_vertex l x f w ≢ cell_vertex l x f v
        side w v apart same = apart (search (rules, number_same, from_is, is))

        at : (i j : ℕ) → i < j → j < 4 → cell_vertex l x f (way_of i) ≢ cell_vertex l x f (way_of j)
        at zero (suc zero) less four = side south east (ends_differ (is south))
        at zero (suc (suc zero)) less four = side south north (opposite_differ (is south))
        at zero (suc (suc (suc j))) less four = side south west (λ e. ends_differ (is west) (sym e))
        at (suc zero) (suc (suc zero)) less four = side east north (ends_differ (is east))
        at (suc zero) (suc (suc (suc j))) less four = side east west (opposite_differ (is east))
        at (suc (suc zero)) (suc (suc (suc j))) less four = side north west (ends_differ (is north))
        at _ _ less four = absurd (omega arith)

    pub repeat_free : IsRepeatFree (new_faces l x)
    repeat_free f i j low less four same =
        let f_low : f < face_count l x = omega (arith, faces_long l x) in
        let i_is : turn (way_of i) ≡ i = turn_way i (omega arith) in
        let j_is : turn (way_of j) ≡ j = turn_way j four in
        search (rules, corners_differ, corner_is)

    pub edges_once : HasEdgesOnce (new_faces l x)
    edges_once d e d_low e_low same =
        let (a, is_a, a_is) = at_number l x laid len d d_low in
        let (b, is_b, b_is) = at_number l x laid len e e_low in
        let starts = starts_same is_a is_b (cc same.0) in
        let ends = starts_same (next_is l x a is_a) (next_is l x b is_b)
        (cc (same.1, next_number l x a, next_number l x b)) in
        cc (same_dart is_a is_b starts ends)

    pub across_twin : (d e : CellDart) → IsDart l x d → IsAcross l x laid len d e
        → twin_of (new_faces l x) (dart_number l x d) ≡ Some (dart_number l x e)
    across_twin d e is a =
        let ends = across_ends laid len is a in
        twin_found _ edges_once _ _ (search (rules, dart_low, number_from, number_to))

    pub alone_no_twin : (d : CellDart) (w : Slot) (o : ℕ) → IsDart l x d → IsAlone laid len d w o
        → twin_of (new_faces l x) (dart_number l x d) ≡ None
    alone_no_twin d w o is alone = twin_none _ _ (λ n t.
        let (e, is_e, e_is) = at_number l x laid len n t.0 in
        let starts = starts_same is_e (next_is l x d is) (cc (t.1, next_number l x d)) in
        let ends = starts_same (next_is l x e is_e) is (cc (t.2, next_number l x e)) in
        alone_not_across laid len e alone (record { is_dart = is_e; course = turned is is_e starts ends }))

    pub manifold : HasFans l → IsManifold (new_faces l x)
    manifold fans = record { repeat_free = repeat_free; edges_once = edges_once; one_fan = one_fan fans }
