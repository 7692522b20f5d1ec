-- The points inside patches and along arcs are regular, and the vertex of a node has the same kind and as many faces in
-- each model, whatever the lengths.
use Rattle.std.proofs.Common.{rules, ◌≡◌, ◌≢◌, ◌⊎◌, ℕ, zero, suc, ◌+◌, ◌-◌, ◌<◌, true, false, Some, None, refl, sym}
use Rattle.std.proofs.Common.{◌∙◌, ap, subst, inl, inr, arith, ◌≤◌, Bool}
use Rattle.std.proofs.lemmas.Bool.{cond-false, eq-eqb, eqb-true}
use Rattle.def_mesh.specs.Darts.{darts, from_of, prev_of, twin_of, to_of}
use Rattle.def_mesh.specs.{Faces.Faces, Vertices.faces_at, Kinds.is_inner, Kinds.is_regular}
use Rattle.def_mesh.specs.HalfEdges.{IsQuadManifold, Turns, half_edges}
use Rattle.def_layout.specs.Gluings.{south, east, north, west, Gluing, Slot, IsSlot, use_of, start_node, end_node}
use Rattle.def_layout.specs.{declared.tmesh.SideArc.SideArc, Surfaces.IsSurface, Surfaces.IsOtherSlot, Lengths.Lengths}
use Rattle.def_layout.specs.Cells.{CellDart, IsDart, dart, prev, slot_dart, next}
use Rattle.def_written.specs.Points.{along, inside, IsPoint, Point, node}
use Rattle.face_laws.proofs.FullCuts.{has_fan, inner_twin, cross_regular}
use Rattle.written_laws.proofs.Sides.{arc_inner, first_is, use_begins, use_ends, use_some, use_sort, use_node}
use Rattle.written_laws.proofs.{Borders.inner_from, Courses.IsAcross, Courses.across_or_alone, Fans.rim_slot}
use Rattle.written_laws.proofs.{Fans.spot_once, NewDarts.prev_is, NewDarts.next_is, ModelCounts.IsModel}
use Rattle.written_laws.proofs.Borders.{spot_dart, at_is, at_from, at_to, IsSpot, spot_is, spot_from, sort_spot}
use Rattle.written_laws.proofs.Courses.{IsAlone, across_within, alone_not_across, rim_turn, spot_back, border_turn}
use Rattle.written_laws.proofs.Rims.{point_inside, dart_is, next_prev}
use Rattle.written_laws.proofs.Spacings.{AreNumbers, numbers_le, filter_long}
use Rattle.{std.proofs.lemmas.Option.none-some, std.specs.Prelude.◌==◌, def_layout.specs.Lengths.AreLengths}
use Rattle.def_written.specs.NewFaces.{dart_start}
use Rattle.face_laws.proofs.FullCuts as MeshFans

-- A vertex is regular where two faces lie between two edges with one dart.
module _ (F : Faces) (laws : IsQuadManifold (half_edges F)) (d a : ℕ) (low : d < darts F)
    (first : twin_of F (prev_of d) ≡ Some a) (last : twin_of F (prev_of a) ≡ None) (none : twin_of F d ≡ None) where
  a_low : a < darts F
  a_low = laws.twin_low _ a (laws.prev_low d low) first

  back : twin_of F a ≡ Some (prev_of d)
  back = laws.twin_twin _ a (laws.prev_low d low) first

  one_of_two : (n x : ℕ) → Turns (half_edges F) d x n → (x ≡ d) ⊎ (x ≡ a)
  one_of_two zero x t = inl (sym t)
  one_of_two (suc n) x t =
      let before = one_of_two n t.0 t.1 in
      let back_twin = laws.twin_twin (prev_of x) t.0 (laws.prev_low x t.2) in
      let x_is = laws.next_prev x in
      let d_is = laws.next_prev d in
      search (rules, back_twin, back, first, last, none, t.3)

  pub edge_regular : is_regular F (from_of F d) ≡ true
  edge_regular = eq-eqb _ _ (two ∙ sym (cond-false (is_inner F (from_of F d)) 4 2 boundary))
    where
      boundary : is_inner F (from_of F d) ≡ false
      boundary = search (rules, inner_twin)

      pick : ℕ → ℕ
      pick zero = d
      pick (suc k) = a

      two : faces_at F (from_of F d) ≡ 2
      two =
          let fan = has_fan F (from_of F d) in
          let most = fan.most 2 pick (λ x leaves.
          let t = laws.one_fan d x low leaves.low (sym leaves.at) in
          elim (one_of_two t.0 x t.1) [ inl e ↦ (0, omega arith, sym e) | inr e ↦ (1, omega arith, sym e) ]) in
          let least = fan.least 2 pick (search (rules, by_place)) in
          omega arith
        where
          by_place : (j : ℕ) → (pick j < darts F) × (from_of F (pick j) ≡ from_of F d)
          by_place zero = (low, refl)
          by_place (suc j) = (a_low, cc ((laws.twin_ends _ a (laws.prev_low d low) first).0, laws.next_prev d))

-- A dart at node n, by slot, whatever the lengths: the first one on the border of an arc, or the one behind it.
pub record IsNodeSpot (l : Gluing) (n : ℕ) (w : Slot) (b : Bool) : Type 0 where
  pub is_slot : IsSlot l w
  pub start : start_node l (use_of l w) ≡ n
  pub later : b ≡ true → 0 < w.at

-- Each arc at the node is used by two slots.
abbrev AreShared : (l : Gluing) (n : ℕ) → Type 0
AreShared l n = (w : Slot) → IsSlot l w → (start_node l (use_of l w) ≡ n) ⊎ (end_node l (use_of l w) ≡ n)
    → (v : Slot) × IsOtherSlot l w v

module _ {l : Gluing} {x : Lengths} (laid : IsSurface l) (len : AreLengths l x) where
  pub node_sort : (n : ℕ) {d : CellDart} → IsDart l x d → dart_start l x d ≡ node n → (w : Slot) × (b : Bool)
      × IsNodeSpot l n w b × IsSpot l x d w 0 b
  node_sort n {d} is leaves = elim (sort_spot l x laid.paved len d is) [
    | inl i ↦ let b = inner_from l x laid len d i in absurd cc
    | inr (w, o, b, s) ↦
        let at = spot_from l x laid len s in
        elim (use_sort l x (use_of l w) o s.low) [ inl (z, e) ↦ search rules | inr (some, e) ↦ absurd cc ]
  ]

  node_spot : {n : ℕ} {w : Slot} {b : Bool} → IsNodeSpot l n w b
      → IsDart l x (spot_dart l x w 0 b) × IsSpot l x (spot_dart l x w 0 b) w 0 b
  node_spot {w} {b} s = spot_is l x laid len b s.is_slot (use_some l x laid.paved len w s.is_slot) (λ e.
      search (rules, first_is, s.later))

module _ {l : Gluing} {x : Lengths} {laid : IsSurface l} {len : AreLengths l x} {F : Faces} {cell : CellDart → ℕ}
    (model : IsModel F l x laid len cell) where
  -- Where no slot uses an arc the other way round, its darts have no twin.
  alone_twin : (w : Slot) (o : ℕ) → IsSlot l w → o < x (use_of l w).arc → ((v : Slot) → ¬ IsOtherSlot l w v)
      → twin_of F (cell (slot_dart l x w o)) ≡ None
  alone_twin w o is less none =
      let s : IsAlone laid len (slot_dart l x w o) w o = search rules in
      model.alone (slot_dart l x w o) (at_is l x laid.paved len w o is less) (λ e. alone_not_across laid len e s)

  module _ (laws : IsQuadManifold (half_edges F)) where
    prev_cell : {d : CellDart} → IsDart l x d → prev_of (cell d) ≡ cell (prev d)
    prev_cell {d} is = cc (next_prev d, model.turned (prev d) (prev_is l x d is), laws.prev_next (cell (prev d)))

    turn_twin : {d e : CellDart} → IsDart l x d → IsAcross l x laid len (prev d) e
        → twin_of F (prev_of (cell d)) ≡ Some (cell e)
    turn_twin {d} {e} is a = ap (twin_of F) (prev_cell is) ∙ model.across (prev d) e (prev_is l x d is) a

    -- Where four turns lead back, the vertex is regular.
    cross_at : {d a b c : CellDart} → IsAcross l x laid len (prev d) a → IsAcross l x laid len (prev a) b → IsAcross l x
        laid len (prev b) c → IsAcross l x laid len (prev c) d → d ≢ b → is_regular F (from_of F (cell d)) ≡ true
    cross_at {d} {a} {b} {c} i j k m apart = grind (
      arith,
      cross_regular F laws (cell d) (model.low d m.is_dart)
          (cell a, cell b, cell c, search (rules, turn_twin, model.same)),
    )

    pub inside_regular : (p i j : ℕ) (e : CellDart) → IsPoint l x (inside p i j) → IsDart l x e
        → dart_start l x e ≡ inside p i j → is_regular F (from_of F (cell e)) ≡ true
    inside_regular p i j e (p_low, i_some, i_low, j_some, j_low) is_e leaves =
        let is : IsDart l x (dart p i j south) = record { patch_low = p_low; i_low = i_low; j_low = j_low } in
        let same = model.alike e _ is_e is (leaves ∙ sym (point_inside l x laid len p i j i_some i_low j_some j_low)) in
        rw same (cross_at (across_within laid len (dart p i j west) (p_low, i_some, i_low, j_low))
        (across_within laid len (dart p (i - 1) j south) (p_low, omega arith, j_some, j_low))
        (across_within laid len (dart p (i - 1) (j - 1) east) (p_low, omega arith, omega arith, omega arith))
        (subst (IsAcross l x laid len (dart p (i - 1 + 1) (j - 1) north)) (dart_is p south (omega arith) (omega arith))
        (across_within laid len (dart p (i - 1 + 1) (j - 1) north) (p_low, omega arith, omega arith, omega arith)))
        (search rules))

    pub along_regular : (a k : ℕ) (e : CellDart) → IsPoint l x (along a k) → IsDart l x e → dart_start l x e ≡ along a k
        → is_regular F (from_of F (cell e)) ≡ true
    along_regular a k e (low, some, less) is_e leaves =
        let (w, is_w, used) = laid.forward a low in
        let long = ap (λ (u : SideArc). x u.arc) used in
        let w_less : k < x (use_of l w).arc = omega (arith, long) in
        let is = at_is l x laid.paved len w k is_w w_less in
        let same = model.alike e (slot_dart l x w k) is_e is (leaves ∙ sym (search (rules, at_from, arc_inner))) in
        let turn = rim_turn laid len w k is_w w_less (omega arith) in
        rw same (elim (laid.other w is_w) [
          | inl (u, other) ↦
              let both = ap x other.1.arc in
              let u_less : x (use_of l w).arc - k < x (use_of l u).arc = omega arith in
              cross_at turn (border_turn laid len w u k (x (use_of l w).arc - k) is_w other some w_less refl)
              (rim_turn laid len u (x (use_of l w).arc - k) other.0 u_less (omega arith))
              (border_turn laid len u w (x (use_of l w).arc - k) k other.0 (
                is_w,
                search rules,
              ) (omega arith) u_less (omega arith)) (search (rules, rim_slot))
          | inr none ↦ edge_regular F laws (cell (slot_dart l x w k)) (cell (spot_dart l x w k true)) (model.low _ is)
              (turn_twin is turn) (ap (twin_of F) (search (rules, prev_cell, spot_back))
              ∙ alone_twin w (k - 1) is_w (omega arith) none) (alone_twin w k is_w w_less none)
        ])

  -- Vertex v of the model is point a.
  pub record IsVertex (a : Point) (v : ℕ) : Type 0 where
    pub there : (d : CellDart) → IsDart l x d → dart_start l x d ≡ a → from_of F (cell d) ≡ v
    pub back : (d : CellDart) → IsDart l x d → from_of F (cell d) ≡ v → dart_start l x d ≡ a

  pub vertex_from : {d : CellDart} {a : Point} (v : ℕ) → IsDart l x d → dart_start l x d ≡ a → from_of F (cell d) ≡ v
      → IsVertex a v
  vertex_from {d} v is leaves vertex = record {
    there = λ e is_e s. model.alike e d is_e is (cc) ∙ vertex;
    back = λ e is_e s. model.apart e d is_e is (cc) ∙ leaves;
  }

  module _ {n v : ℕ} (is_v : IsVertex (node n) v) where
    -- It is inner where each arc at the node has two sides.
    inner_if : AreShared l n → is_inner F v ≡ true
    inner_if shared = MeshFans.inner_from F v (λ k low ends.
        let (d, is_d, same) = model.onto k low in
        elim (across_or_alone laid len d is_d) [
          | inl (e, a) ↦ (cell e, cc (model.across d e is_d a))
          | inr (w, o, s) ↦ absurd (let other = shared w s.on_border.is_slot (by_end d is_d same s ends) in
              s.alone other.0 other.1)
        ])
      where
        by_end : (d : CellDart) → IsDart l x d → {k : ℕ} → cell d ≡ k → {w : Slot} {o : ℕ} → IsAlone laid len d w o
            → (from_of F k ≡ v) ⊎ (to_of F k ≡ v) → (start_node l (use_of l w) ≡ n) ⊎ (end_node l (use_of l w) ≡ n)
        by_end d is same {w} {o} s (inl e) =
            let at = at_from l x laid len w o s.on_border.is_slot s.on_border.low in
            use_node l x (use_of l w) {o = o} (omega (arith, s.on_border.low))
            (cc (is_v.back d is (cc), s.on_border.dart))
        by_end d is same {w} {o} s (inr e) =
            let arrives = is_v.back (next d) (next_is l x d is) (cc (model.turned d is)) in
            let at = at_to l x laid len w o s.on_border.is_slot s.on_border.low in
            use_node l x (use_of l w) {o = o + 1} (omega (arith, s.on_border.low)) (cc s.on_border.dart)

    inner_only : is_inner F v ≡ true → AreShared l n
    inner_only inner w is ends = elim (laid.other w is) [
      | inl u ↦ u
      | inr none ↦ absurd (elim ends [
        | inl e ↦ alone 0 some none (λ is_d. inl (is_v.there _ is_d (search (rules, at_from, some, use_begins))))
        | inr e ↦ alone (x (use_of l w).arc - 1) (omega (arith, some)) none (λ is_d. inr (cc (
          model.turned _ is_d,
          is_v.there _ (next_is l x _ is_d) (search (rules, at_to, some, use_ends)),
        )))
      ])
    ]
      where
        some : 0 < x (use_of l w).arc
        some = use_some l x laid.paved len w is

        alone : (o : ℕ) → o < x (use_of l w).arc → ((v : Slot) → ¬ IsOtherSlot l w v) → (IsDart l x (slot_dart l x w o)
            → (from_of F (cell (slot_dart l x w o)) ≡ v) ⊎ (to_of F (cell (slot_dart l x w o)) ≡ v)) → ⊥
        alone o less none at =
            let is_d = at_is l x laid.paved len w o is less in
            let t = MeshFans.inner_twin F v inner _ (model.low _ is_d) (at is_d) in
            none-some t.0 (cc (alone_twin w o is less none))

    -- The darts that leave it, by slot.
    by_spot : AreNumbers (λ (t : Slot × Bool). IsNodeSpot l n t.0 t.1) (λ t. cell (spot_dart l x t.0 0 t.1))
        (λ d. from_of F d == v) (darts F)
    by_spot = record {
      each = λ t s.
          let i = node_spot laid len s in
          let begins = use_begins l x (use_of l t.0) i.1.low in
          (model.low _ i.0, eq-eqb _ _ (is_v.there _ i.0 (cc (spot_from l x laid len i.1, s.start))));
      onto = λ k low on.
          let (d, is_d, same) = model.onto k low in
          let (w, b, s, i) = node_sort laid len n is_d (is_v.back d is_d (cc (eqb-true (from_of F k) v on))) in
          ((w, b), s, cc (i.dart));
    }

module _ {l : Gluing} {laid : IsSurface l} {x y : Lengths} {len : AreLengths l x} {lon : AreLengths l y} {F G : Faces}
    {cell new : CellDart → ℕ} {f : IsModel F l x laid len cell} {g : IsModel G l y laid lon new} {n : ℕ} {u v : ℕ}
    (is_u : IsVertex f (node n) u) (is_v : IsVertex g (node n) v) where
  -- The vertex of a node has no fewer faces in another model, and is inner there too.
  pub faces_le : faces_at F u ≤ faces_at G v
  faces_le = omega (
    arith,
    filter_long (λ d. from_of F d == u) (darts F),
    filter_long (λ d. from_of G d == v) (darts G),
    numbers_le (by_spot f is_u) (by_spot g is_v) (λ t r s q same.
        let a = node_spot laid lon s in
        let b = node_spot laid lon q in
        let one = spot_once laid.paved lon a.1 (rw (← g.same _ _ a.0 b.0 same) at b.1) in
        λ k. cell (spot_dart l x (one.0 k) 0 (one.2 k))),
  )

  pub inner_to : is_inner F u ≡ true → is_inner G v ≡ true
  inner_to inner = inner_if g is_v (inner_only f is_u inner)
