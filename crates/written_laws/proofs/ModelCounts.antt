-- Lists of faces whose darts are those of the cells of a gluing: the new faces, and the old ones at the old lengths.
use Rattle.std.proofs.Common.{rules, [], ◌≡◌, ℕ, ◌+◌, ◌*◌, ◌/◌, ◌%◌, ◌<◌, true, length, get_or, Some, None, refl, sym}
use Rattle.std.proofs.Common.{◌∙◌, ap, inl, inr, arith, zero, suc, ◌-◌, Option, pos, ◌+ℤ◌, ◌-ℤ◌}
use Rattle.std.proofs.lemmas.Bool.{eqb-true, cases_order, lt-ltb}
use Rattle.std.proofs.{lemmas.List.get_or_default, lemmas.List.Folds.list_any_at, lemmas.List.Folds.Any-from_list_any}
use Rattle.std.proofs.{lemmas.List.FromFn.get_or-map-range_with_len, lemmas.Int.ints}
use Rattle.std.specs.{Prelude.◌==◌, List.list_any}
use Rattle.def_mesh.specs.{Faces.Face, Faces.Faces, Faces.face_at, Darts.darts, Darts.next_of, Darts.from_of}
use Rattle.def_mesh.specs.{Darts.twin_of, Vertices.is_used, Vertices.vertex_count, Components.is_lesser}
use Rattle.def_mesh.specs.{Components.edge_count, Components.used_count, Components.euler}
use Rattle.def_layout.specs.{Gluings.south, Gluings.Gluing, Gluings.use_of, Cells.CellDart, Cells.IsDart, Cells.dart}
use Rattle.def_layout.specs.{Cells.next, Cells.slot_dart, declared.tmesh.SideArc.SideArc, Surfaces.IsSurface}
use Rattle.def_layout.specs.{Lengths.Lengths, Lengths.AreLengths, Lengths.wide, Lengths.high}
use Rattle.def_written.specs.{Points.Point, Points.node, Points.along, Points.inside, Points.IsPoint}
use Rattle.def_written.specs.{Numbers.vertex_number, Numbers.vertices, NewFaces.dart_start, NewFaces.new_face}
use Rattle.def_written.specs.{NewFaces.face_count, NewFaces.new_faces, Edges.Edge, Edges.IsEdge}
use Rattle.written_laws.proofs.NewDarts.{dart_number, dart_low, dart_same, at_number, next_number, number_from}
use Rattle.written_laws.proofs.NewDarts.{faces_long}
use Rattle.written_laws.proofs.Courses.{IsAcross, across_or_alone, Course, course_of, course_is, course_once}
use Rattle.written_laws.proofs.Courses.{alone_not_across, edge_dart}
use Rattle.written_laws.proofs.EdgeNumbers.{flats, steeps, edge_number, edge_total, edge_low, edge_same, edge_onto}
use Rattle.written_laws.proofs.EdgeNumbers.{point_onto, number_same, number_low}
use Rattle.written_laws.proofs.{Sides.use_begins, Sides.arc_inner, Sides.use_some, Rims.point_inside, Rims.wide_some}
use Rattle.written_laws.proofs.{Rims.high_some, Borders.at_is, Borders.at_from, Borders.from_is, Manifold.IsSimple}
use Rattle.written_laws.proofs.{Manifold.across_twin, Manifold.alone_no_twin, Spacings.AreNumbers, Spacings.numbers_le}
use Rattle.written_laws.proofs.{Spacings.passing_all, Spacings.count_is, Fans.alike_or_turned, Fans.not_self}
use Rattle.{def_math.specs.Counts.count_below, mesh_laws.proofs.Flood.all_below}

-- Dart `cell d` is that of d. Darts leave one vertex where those of the cells leave one point, and have as twin that of
-- the dart across.
pub record IsModel (F : Faces) (l : Gluing) (x : Lengths) (laid : IsSurface l) (len : AreLengths l x) (cell : CellDart
    → ℕ) : Type 0 where
  pub quads : (f : ℕ) → f < length F → length (face_at F f) ≡ 4
  pub low : (d : CellDart) → IsDart l x d → cell d < darts F
  pub same : (d e : CellDart) → IsDart l x d → IsDart l x e → cell d ≡ cell e → d ≡ e
  pub onto : (k : ℕ) → k < darts F → (d : CellDart) × IsDart l x d × (cell d ≡ k)
  pub turned : (d : CellDart) → IsDart l x d → cell (next d) ≡ next_of (cell d)
  pub alike : (d e : CellDart) → IsDart l x d → IsDart l x e → dart_start l x d ≡ dart_start l x e → from_of F (cell d)
      ≡ from_of F (cell e)
  pub apart : (d e : CellDart) → IsDart l x d → IsDart l x e → from_of F (cell d) ≡ from_of F (cell e)
      → dart_start l x d ≡ dart_start l x e
  pub across : (d e : CellDart) → IsDart l x d → IsAcross l x laid len d e → twin_of F (cell d) ≡ Some (cell e)
  pub alone : (d : CellDart) → IsDart l x d → ((e : CellDart) → ¬ IsAcross l x laid len d e) → twin_of F (cell d) ≡ None

-- A vertex that is used is left by a dart.
pub used_dart : (F : Faces) (v : ℕ) → ((f : ℕ) → f < length F → length (face_at F f) ≡ 4) → is_used F v ≡ true
    → (d : ℕ) × (d < darts F) × (from_of F d ≡ v)
used_dart F v quads used =
    let (f, face, f_low, is, t) = Any-from_list_any (λ face. list_any (λ u. u == v) face) F used in
    let (i, u, m, at, s) =
    Any-from_list_any (λ u. u == v) (get_or F f []) (rw (get_or_default F f [] face f_low ∙ is) t) in
    let face_is : (4 * f + i) / 4 ≡ f = omega arith in
    let place : (4 * f + i) % 4 ≡ i = omega arith in
    (4 * f + i, omega arith, cc (get_or_default (get_or F f []) i 0 u m, eqb-true u v s))

-- A vertex that a dart leaves is used.
pub dart_used : (F : Faces) (d : ℕ) → ((f : ℕ) → f < length F → length (face_at F f) ≡ 4) → d < darts F
    → is_used F (from_of F d) ≡ true
dart_used F d quads low = search (rules, list_any_at)

module _ (l : Gluing) (x : Lengths) (laid : IsSurface l) (len : AreLengths l x) where
  -- Each point is left by a dart.
  pub point_dart : (a : Point) → IsPoint l x a → (d : CellDart) × IsDart l x d × (dart_start l x d ≡ a)
  point_dart (node n) is =
      let r = laid.reached n is in
      let some = use_some l x laid.paved len r.0 r.1 in
      (slot_dart l x r.0 0, search (rules, at_is), search (rules, at_from, use_begins))
  point_dart (along a k) is =
      let f = laid.forward a is.0 in
      let less : k < x (use_of l f.0).arc = omega (arith, ap (λ (u : SideArc). x u.arc) f.2) in
      let from = at_from l x laid len f.0 k f.1 less in
      (slot_dart l x f.0 k, search (rules, at_is), cc (arc_inner l x a k is.1 is.2))
  point_dart (inside p i j) is = (dart p i j south, search rules, search (rules, point_inside))

  -- The new faces are a model.
  pub new_quads : (f : ℕ) → f < length (new_faces l x) → length (face_at (new_faces l x) f) ≡ 4
  new_quads f low = grind (arith, get_or-map-range_with_len (new_face l x) 0 (face_count l x) f f [], faces_long l x)

  pub new_model : IsSimple l x → IsModel (new_faces l x) l x laid len (dart_number l x)
  new_model simple = record {
    quads = new_quads;
    low = dart_low l x;
    same = dart_same l x;
    onto = at_number l x laid len;
    turned = λ d is. sym (next_number l x d);
    alike = λ d e is_d is_e s. cc (number_from l x d is_d, number_from l x e is_e);
    apart = λ d e is_d is_e s. search (rules, number_same, from_is, number_from);
    across = across_twin laid len simple;
    alone = λ d is none. search (rules, across_or_alone laid len d is, alone_no_twin laid len simple);
  }

-- How many vertices, edges and faces a model has, and Euler's number.

-- Counts whose terms have equal sums, but for one.
count_sums : (f g h k : ℕ → ℕ) (n : ℕ) → ((p : ℕ) → p < n → f p + g p ≡ h p + k p + 1)
    → count_below f n + count_below g n ≡ count_below h n + count_below k n + n
count_sums f g h k zero same = refl
count_sums f g h k (suc n) same = search (rules, count_sums f g h k n (λ p l. same p (omega arith)))

module _ (l : Gluing) (x : Lengths) (laid : IsSurface l) (len : AreLengths l x) where
  -- The dart across is across the other way round, and not the dart itself.
  across_back : (d e : CellDart) → IsDart l x d → IsAcross l x laid len d e → IsAcross l x laid len e d
  across_back d e is a = search rules

  no_self : (d : CellDart) → ¬ IsAcross l x laid len d d
  no_self d a = not_self (course_of l x d).ahead (ap (λ (c : Course). c.ahead) a.course)

  -- The closed sums.
  sums : vertices l x + face_count l x + l.arcs ≡ edge_total l x + l.nodes + l.patches
  sums = omega (
    arith,
    arc_sum l.arcs (λ a low. low),
    count_sums (λ p. (wide l x p - 1) * (high l x p - 1)) (λ p. wide l x p * high l x p) (flats l x) (steeps l x)
        l.patches (search (rules, wide_some, high_some)),
  )
    where
      arc_sum : (n : ℕ) → ((a : ℕ) → a < n → a < l.arcs) → count_below (λ a. x a - 1) n + n ≡ count_below x n
      arc_sum zero low = refl
      arc_sum (suc n) low = omega (arith, arc_sum n (λ a less. low a (omega arith)), len.some n (low n (omega arith)))

  module _ (F : Faces) (cell : CellDart → ℕ) (model : IsModel F l x laid len cell) where
    -- Vertices in use and points, by the darts that leave them.
    by_vertex : AreNumbers (IsDart l x) (λ d. from_of F (cell d)) (is_used F) (vertex_count F)
    by_vertex = record {
      each = λ d is. (all_below F _ (model.low d is), dart_used F _ model.quads (model.low d is));
      onto = λ v low used. let k = used_dart F v model.quads used in grind (arith, model.onto k.0 k.1);
    }

    by_point : AreNumbers (IsDart l x) (λ d. vertex_number l x (dart_start l x d)) (λ k. true) (vertices l x)
    by_point = record {
      each = λ d is. (number_low l x _ (from_is l x laid len d is), refl);
      onto = λ n low on. search (rules, point_onto l x n low, point_dart l x laid len);
    }

    pub used_is : used_count F ≡ vertices l x
    used_is = count_is by_vertex by_point (λ d e is_d is_e same. model.alike d e is_d is_e
        (search (rules, number_same, from_is))) (λ d e is_d is_e same. grind (arith, model.apart d e is_d is_e same))

    -- The lesser dart of an edge, or the only one.
    abbrev IsLesser : (d : CellDart) → Type 0
    IsLesser d = IsDart l x d × (is_lesser (cell d) (twin_of F (cell d)) ≡ true)

    lesser_dart : (e : Edge) → IsEdge l x e → (d : CellDart) × IsLesser d × ((course_of l x d).edge ≡ e)
    lesser_dart e is =
        let (d, is_d, edge) = edge_dart l x laid len e is in
        elim (across_or_alone laid len d is_d) [
          | inl (c, a) ↦ elim (cases_order (cell d) (cell c)) [
            | inl s ↦ absurd (no_self d (rw (← model.same d c is_d a.is_dart s) at a))
            | inr (inl less) ↦ (d, (is_d, lesser_by _ (model.across d c is_d a) less), edge)
            | inr (inr more) ↦ (c, (a.is_dart, search (rules, lesser_by, model.across, across_back d c)), cc)
          ]
          | inr a ↦ (d, (is_d, search (rules, model.alone, alone_not_across)), edge)
        ]
      where
        lesser_by : (k : ℕ) {t : Option ℕ} {n : ℕ} → t ≡ Some n → k < n → is_lesser k t ≡ true
        lesser_by k {n} is less = cc (lt-ltb k n less)

    -- Lesser darts of one edge are one.
    lesser_once : (d e : CellDart) → IsLesser d → IsLesser e → (course_of l x d).edge ≡ (course_of l x e).edge → d ≡ e
    lesser_once d e (is_d, d_less) (is_e, e_less) edges =
        let ways = alike_or_turned (course_of l x d).ahead (course_of l x e).ahead in
        search (rules, ways, course_once l x laid len is_d is_e, across_back)

    -- Edges, by their lesser darts.
    by_lesser : AreNumbers IsLesser cell (λ k. is_lesser k (twin_of F k)) (darts F)
    by_lesser = record {
      each = λ d is. (model.low d is.0, is.1);
      onto = λ k low less. let d = model.onto k low in (d.0, (d.1, rw d.2 less), d.2);
    }

    by_edge : AreNumbers IsLesser (λ d. edge_number l x (course_of l x d).edge) (λ k. true) (edge_total l x)
    by_edge = record {
      each = λ d is. (edge_low l x _ (course_is l x laid len is.0), refl);
      onto = λ n low on. let e = edge_onto l x n low in let d = lesser_dart e.0 e.1 in (d.0, d.1, cc);
    }

    pub edges_are : edge_count F ≡ edge_total l x
    edges_are = count_is by_lesser by_edge (λ d e is_d is_e same. ap cell
        (search (rules, lesser_once, edge_same, course_is)))
        (λ d e is_d is_e same. grind (arith, model.same d e is_d.0 is_e.0 same))

    -- Faces, by their darts.
    by_cell : AreNumbers (IsDart l x) cell (λ k. true) (darts F)
    by_cell = record { each = λ d is. (model.low d is, refl); onto = λ k low on. model.onto k low }

    by_number : AreNumbers (IsDart l x) (dart_number l x) (λ k. true) (4 * face_count l x)
    by_number = record {
      each = λ d is. (omega (arith, dart_low l x d is, faces_long l x), refl);
      onto = λ n low on. at_number l x laid len n (omega (arith, faces_long l x));
    }

    pub faces_are : length F ≡ face_count l x
    faces_are = omega (
      arith,
      passing_all (darts F),
      passing_all (4 * face_count l x),
      numbers_le by_cell by_number (λ d e is_d is_e same. ap cell (dart_same l x d e is_d is_e same)),
      numbers_le by_number by_cell (λ d e is_d is_e same. ap (dart_number l x) (model.same d e is_d is_e same)),
    )

    -- Euler's number is that of nodes, arcs and patches.
    pub euler_is : euler F ≡ (pos l.nodes -ℤ pos l.arcs) +ℤ pos l.patches
    euler_is = omega (arith, ints, sums, used_is, edges_are, faces_are)
