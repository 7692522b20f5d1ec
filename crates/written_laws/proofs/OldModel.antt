-- A gluing that lies in a mesh is laid.
use Rattle.std.proofs.Common.{rules, ◌≡◌, ℕ, ◌-◌, ◌<◌, Bool, true, false, Some, refl, sym, ◌∙◌, ap, arith, inl, inr}
use Rattle.std.proofs.Common.{◌⊎◌, zero, suc, not, length, None, subst}
use Rattle.std.proofs.{lemmas.Bool.cases_Bool}
use Rattle.def_mesh.specs.HalfEdges.{HalfEdges, IsQuadManifold, AreTurned, half_edges, Turns as MeshTurns}
use Rattle.def_mesh.specs.{Faces.Faces, Faces.face_at, Manifold.IsManifold}
use Rattle.def_layout.specs.Gluings.{Way, south, west, side_before, Gluing, Slot, IsSlot, AreReverse, use_of}
use Rattle.def_layout.specs.Gluings.{use_before, slot_before, start_node, end_node}
use Rattle.def_layout.specs.{Cells.CellDart, Cells.dart, Cells.next, Cells.prev, Cells.slot_dart, Cells.IsDart}
use Rattle.def_layout.specs.{Surfaces.HasWholeSides, Surfaces.IsSurface, Surfaces.IsOtherSlot, Lengths.Lengths}
use Rattle.def_layout.specs.{Lengths.reach, Lengths.AreLengths, declared.tmesh.SideArc.SideArc, Embeddings.IsEmbedding}
use Rattle.def_layout.specs.{Fans.IsTurn, Fans.SlotTurns, Fans.HasFans}
use Rattle.written_laws.proofs.Borders.{spot_dart, at_is, before_is, IsSpot, spot_is, spot_from}
use Rattle.written_laws.proofs.Courses.{IsAcross, across_or_alone, across_ends, rim_turn, IsAlone}
use Rattle.written_laws.proofs.{Fans.IsTurning, Fans.before_related, Fans.alike_or_turned, Fans.point_related}
use Rattle.written_laws.proofs.{Fans.rim_slot, Fans.before_spot, Fans.spot_once, Sides.use_some, Sides.use_begins}
use Rattle.written_laws.proofs.{Rims.inner_edge, Rims.over_at, Rims.next_prev, Rims.prev_next}
use Rattle.written_laws.proofs.{NewDarts.prev_is, NewDarts.next_is, NodeKinds.node_sort, ModelCounts.IsModel}
use Rattle.{def_written.specs.Edges.IsEdge, def_written.specs.NewFaces.dart_start, mesh_laws.proofs.Chains.manifold_law}

module _ (m : HalfEdges) (laws : IsQuadManifold m) (l : Gluing) (x : Lengths) (paved : HasWholeSides l)
    (len : AreLengths l x)
    (cell : CellDart → ℕ) (vertex : ℕ → ℕ) (arc_dart : ℕ → ℕ → ℕ) (s : IsEmbedding m l x cell vertex arc_dart) where
  some : {w : Slot} → IsSlot l w → 0 < x (use_of l w).arc
  some {w} is = use_some l x paved len w is

  low_at : (w : Slot) (o : ℕ) → IsSlot l w → o < x (use_of l w).arc → cell (slot_dart l x w o) < m.count
  low_at w o is less = s.low _ (at_is l x paved len w o is less)

  -- The dart over an arc that stands twice is the twin.
  pub over_twin : (w v : Slot) (o : ℕ) → IsSlot l w → IsOtherSlot l w v → o < x (use_of l w).arc
      → m.twin (cell (slot_dart l x w o)) ≡ Some (cell (slot_dart l x v (x (use_of l w).arc - 1 - o)))
  over_twin w v o is other less = elim (cases_Bool (use_of l w).forward) [
    | inl e ↦ let k_low = ap x other.1.arc in search rules
    | inr e ↦ search (rules, s.behind w o is less e)
  ]

  -- Darts of the mesh that leave one vertex.
  abbrev pub AreFromOne : (d e : CellDart) → Type 0
  AreFromOne d e = m.from (cell d) ≡ m.from (cell e)

  -- Inside a patch the twin lies over the dart.
  within_twin : (p i j : ℕ) (w : Way) → IsEdge l x (inner_edge p i j w)
      → m.twin (cell (dart p i j w)) ≡ Some (cell (over_at p i j w))
  within_twin p i j west h = search rules
  within_twin p i j south h = search rules
  within_twin p i j _ h = search (rules, s.east_of, s.north_of)

  pub from_turning : IsTurning l x AreFromOne
  from_turning = record {
    self = λ d e same. ap (λ (c : CellDart). m.from (cell c)) same;
    on = λ d c e a b. a ∙ b;
    back = λ d e is a. sym a;
    inner = λ d is i. cc (
      s.turned (prev d),
      (laws.twin_ends _ _ (s.low (prev d) (prev_is l x d is)) (within_twin d.patch d.i d.j (side_before d.way) i)).0,
      next_prev d,
    );
    over = λ w v o is other less. ap m.from (s.turned _)
        ∙ sym (laws.twin_ends _ _ (low_at w o is less) (over_twin w v o is other less)).0;
  }

  -- Arcs in use begin and end at the vertices of their nodes.
  node_ends : (w : Slot) → IsSlot l w → (m.from (cell (slot_dart l x w 0)) ≡ vertex (start_node l (use_of l w)))
      × (m.from (m.next (cell (slot_dart l x w (x (use_of l w).arc - 1)))) ≡ vertex (end_node l (use_of l w)))
  node_ends w is =
      let a = (use_of l w).arc in
      let low = paved.arc_low w is in
      let less : x (use_of l w).arc - 1 < x (use_of l w).arc = omega (arith, some is) in
      elim (cases_Bool (use_of l w).forward) [
        | inl e ↦ search rules
        | inr e ↦
            let first : x (use_of l w).arc - 1 - 0 ≡ x (use_of l w).arc - 1 = omega arith in
            let last : x (use_of l w).arc - 1 - (x (use_of l w).arc - 1) ≡ 0 = omega arith in
            let t = laws.twin_ends _ _ (s.arc_low a (x a - 1) low less) (rw first at (s.behind w 0 is (some is) e)) in
            let u = laws.twin_ends _ _ (s.arc_low a 0 low (some is)) (rw last at (s.behind w (x a - 1) is less e)) in
            search (rules, t, u, s.last_at, s.first_at)
      ]

  pub starts : (w : Slot) → IsSlot l w → m.from (cell (slot_dart l x w 0)) ≡ vertex (start_node l (use_of l w))
  starts w is = (node_ends w is).0

  start_low : (u : SideArc) → u.arc < l.arcs → (start_node l u < l.nodes) × (end_node l u < l.nodes)
  start_low u low = search rules

  once : (v w : Slot) → IsSlot l v → IsSlot l w → use_of l v ≡ use_of l w → v ≡ w
  once v w is_v is_w same = rim_slot paved len is_v is_w (some is_v) (some is_w)
      (s.same _ _ (at_is l x paved len v 0 is_v (some is_v)) (at_is l x paved len w 0 is_w (some is_w))
      (search (rules, cases_Bool (use_of l v).forward, s.ahead, s.behind v 0, s.behind w 0, some)))

  meet : (w : Slot) → IsSlot l w → end_node l (use_before l w) ≡ start_node l (use_of l w)
  meet w is =
      let is_b = before_is l x paved len w is in
      s.vertex_same _ _ (start_low _ (paved.arc_low (slot_before l w.patch w.side w.at) is_b)).1
      (start_low _ (paved.arc_low w is)).0 (cc (
        (node_ends _ is_b).1,
        s.turned (slot_dart l x (slot_before l w.patch w.side w.at) (x (use_before l w).arc - 1)),
        before_related paved len from_turning w is,
        starts w is,
      ))

  no_fold : (w : Slot) → IsSlot l w → w.at ≡ 0 → ¬ AreReverse (use_before l w) (use_of l w)
  no_fold w is first rev =
      let b = slot_before l w.patch w.side w.at in
      let is_b = before_is l x paved len w is in
      let o = x (use_of l b).arc - 1 in
      let o_low : x (use_of l b).arc - 1 < x (use_of l b).arc = omega (arith, some is_b) in
      let zero_is : o - o ≡ 0 = omega arith in
      let (c, spot, at) = before_spot paved len w is in
      let here : next (slot_dart l x b o) ≡ slot_dart l x w 0 = search rules in
      let twin = over_twin b w o is_b (is, rev) o_low ∙ ap (λ k. Some (cell (slot_dart l x w k))) zero_is
      ∙ ap (λ (d : CellDart). Some (cell d)) (sym here) ∙ ap Some (s.turned _) in search (rules, low_at)

  pub laid_in : IsSurface l
  laid_in = search (rules, once, meet, no_fold)

  -- The mesh is a model of the gluing at these lengths, and the gluing has fans.
  alike : (d e : CellDart) → IsDart l x d → IsDart l x e → dart_start l x d ≡ dart_start l x e
      → m.from (cell d) ≡ m.from (cell e)
  alike = point_related laid_in len from_turning (search (rules, starts))

  across_twin : (d e : CellDart) → IsDart l x d → IsAcross l x laid_in len d e → m.twin (cell d) ≡ Some (cell e)
  across_twin d e is a = laws.twin_found _ _ (s.low d is) (s.low e a.is_dart)
      (cc (alike e (next d) a.is_dart (next_is l x d is) (across_ends laid_in len is a).0, s.turned d))
      (cc (s.turned e, alike (next e) d (next_is l x e a.is_dart) is (across_ends laid_in len is a).1))

  -- Where no slot uses an arc the other way round, its darts have no twin.
  alone_twin : {d : CellDart} {w : Slot} {o : ℕ} → IsAlone laid_in len d w o → m.twin (cell d) ≡ None
  alone_twin {w} {o} a =
      let low = paved.arc_low w a.on_border.is_slot in
      let (v, is_v, used) = s.forward _ low in
      let ahead : (use_of l w).forward ≡ true = cc (alike v is_v (cc)) in
      cc (
        s.ahead w o a.on_border.is_slot a.on_border.low ahead,
        s.alone (use_of l w).arc o low a.on_border.low (λ v is_v arc. alike v is_v arc ∙ ahead),
      )
    where
      alike : (v : Slot) → IsSlot l v → (use_of l v).arc ≡ (use_of l w).arc
          → (use_of l v).forward ≡ (use_of l w).forward
      alike v is_v arc = elim (alike_or_turned _ _) [ inl same ↦ sym same | inr turned ↦ search rules ]

  alone : (d : CellDart) → IsDart l x d → ((e : CellDart) → ¬ IsAcross l x laid_in len d e) → m.twin (cell d) ≡ None
  alone d is none = elim (across_or_alone laid_in len d is) [ inl a ↦ absurd (none a.0 a.1) | inr a ↦ alone_twin a.2 ]

  -- What the mesh tells to be the twin lies across.
  pub twin_is_across : (d e : CellDart) → IsDart l x d → IsDart l x e → m.twin (cell d) ≡ Some (cell e)
      → IsAcross l x laid_in len d e
  twin_is_across d e is_d is_e twin = elim (across_or_alone laid_in len d is_d) [
    | inl a ↦ rw (s.same a.0 e a.1.is_dart is_e (cc (across_twin d a.0 is_d a.1))) at a.1
    | inr a ↦ absurd (cc (alone_twin a.2))
  ]

  prev_cell : (d : CellDart) → m.prev (cell d) ≡ cell (prev d)
  prev_cell d = cc (next_prev d, s.turned (prev d), laws.prev_next (cell (prev d)))

  turned_point : (d e : CellDart) → IsDart l x d → IsDart l x e → AreTurned m (cell d) (cell e)
      → dart_start l x d ≡ dart_start l x e
  turned_point d e is_d is_e t = search (rules, point d e is_d is_e, point e d is_e is_d)
    where
      point : (d e : CellDart) → IsDart l x d → IsDart l x e → m.twin (m.prev (cell d)) ≡ Some (cell e)
          → dart_start l x e ≡ dart_start l x d
      point d e is_d is_e t =
          let is = prev_is l x d is_d in
          let a = twin_is_across (prev d) e is is_e (cc (prev_cell d)) in
          let ends = across_ends laid_in len is a in cc (next_prev d)

  turns_low : (d e n : ℕ) → d < m.count → MeshTurns m d e n → e < m.count
  turns_low d e zero low t = rw (← t) low
  turns_low d e (suc n) low t = t.2

  -- What a turn of the mesh keeps, turns keep.
  turned_on : (P : CellDart → Type 0) → ((c e : CellDart) → IsDart l x c → IsDart l x e
      → AreTurned m (cell c) (cell e) → P c → P e) → {d : CellDart} → IsDart l x d → P d → (n : ℕ)
      → (e : CellDart) → IsDart l x e → MeshTurns m (cell d) (cell e) n → P e
  turned_on P step {d} is_d start zero e is_e t = subst P (s.same d e is_d is_e t) start
  turned_on P step {d} is_d start (suc n) e is_e t =
      let (c, is_c, same) = s.onto t.0 (turns_low (cell d) t.0 n (s.low d is_d) t.1) in
      step c e is_c is_e (rw same t.3) (turned_on P step is_d start n c is_c (rw same t.1))

  apart : (d e : CellDart) → IsDart l x d → IsDart l x e → m.from (cell d) ≡ m.from (cell e)
      → dart_start l x d ≡ dart_start l x e
  apart d e is_d is_e same =
      let t = laws.one_fan _ _ (s.low d is_d) (s.low e is_e) same in
      turned_on (λ c. dart_start l x d ≡ dart_start l x c) (search (rules, turned_point)) is_d refl t.0 e is_e t.1

  -- A turn of the mesh at a node stays at a slot, or is a turn of the gluing.
  slot_turn : {d e : CellDart} {w u : Slot} {b c : Bool} → IsDart l x d → IsDart l x e → IsSpot l x d w 0 b
      → IsSpot l x e u 0 c → m.twin (m.prev (cell d)) ≡ Some (cell e) → (w ≡ u) ⊎ IsTurn l w u
  slot_turn {d} {e} {w} {u} {b} is_d is_e at_w at_u twin =
      let before = slot_before l _ _ w.at in
      let is_b = before_is l x paved len w at_w.is_slot in
      let last = slot_dart l x before (x (use_of l before).arc - 1) in
      let less : x (use_of l before).arc - 1 < x (use_of l before).arc = omega arith in
      let (k, spot, first) = before_spot paved len w at_w.is_slot in
      elim (alike_or_turned b k) [
        | inl same ↦
            let here : prev d ≡ last = search (rules, prev_next) in
            elim (s.other _ is_b) [
              | inl (v, o) ↦
                  let zero_is : x (use_of l before).arc - 1 - (x (use_of l before).arc - 1) ≡ 0 = omega arith in
                  let t = rw zero_is at (over_twin _ v _ is_b o less) in
                  let there = s.same e _ is_e (at_is l x paved len v 0 o.0 (some o.0)) (cc (prev_cell d)) in
                  let at_e : IsSpot l x e v 0 false = search (rules, some) in
                  inr (record { is_slot = at_u.is_slot; reverse = rw (spot_once paved len at_u at_e).0 o.1 })
              | inr none ↦ search (rules, alone_twin, dart, alone, prev_cell)
            ]
        | inr other ↦ elim (cases_Bool b) [
          | inl on ↦ absurd (omega (arith, at_w.behind on, ap (reach l x w.patch w.side) (first (other ∙ ap not on))))
          | inr off ↦
              let far = spot.behind (other ∙ ap not off) in
              let a = rim_turn _ _ w 0 at_w.is_slot at_w.low far in
              let t = across_twin _ _ (search (rules, prev_is, at_is)) a in
              let one = s.same e _ is_e a.is_dart (cc (prev_cell d)) in
              let at_e : IsSpot l x e w 0 true = search rules in
              inl (sym (spot_once paved len at_u at_e).0)
        ]
      ]

  -- The turns of the mesh round a node are turns of the gluing.
  fans_in : HasFans l
  fans_in v w is_v is_w same =
      let a = spot_is l x laid_in len {o = 0} false is_v (some is_v) (λ e. absurd cc) in
      let b = spot_is l x laid_in len {o = 0} false is_w (some is_w) (λ e. absurd cc) in
      let t = laws.one_fan _ _ (s.low _ a.0) (s.low _ b.0) (cc (starts v is_v, starts w is_w)) in
      turned_on _ step a.0 (λ u b at. (zero, (spot_once paved len a.1 at).0)) t.0 _ b.0 t.1 w false b.1
    where
      step : (c e : CellDart) → IsDart l x c → IsDart l x e → AreTurned m (cell c) (cell e)
          → ((u : Slot) (b : Bool) → IsSpot l x c u 0 b → (k : ℕ) × SlotTurns l v u k)
          → (u : Slot) (b : Bool) → IsSpot l x e u 0 b → (k : ℕ) × SlotTurns l v u k
      step c e is_c is_e turned before u b at_u =
          let leaves = turned_point c e is_c is_e turned ∙ spot_from l x laid_in len at_u
          ∙ use_begins l x (use_of l u) at_u.low in
          let (z, i, node, at_z) = node_sort laid_in len _ is_c leaves in
          let r = before z i at_z in
          let t : (z ≡ u) ⊎ (IsTurn l z u ⊎ IsTurn l u z) =
          search (rules, slot_turn is_c is_e at_z at_u, slot_turn is_e is_c at_u at_z) in elim t [
            | inl one ↦ (r.0, subst (λ (y : Slot). SlotTurns l v y r.0) one r.1)
            | inr turn ↦ (suc r.0, (z, at_z.is_slot, r.1, turn))
          ]

module _ (faces : Faces) (manifold : IsManifold faces) (l : Gluing) (x : Lengths) (paved : HasWholeSides l)
    (len : AreLengths l x) (cell : CellDart → ℕ) (vertex : ℕ → ℕ) (arc_dart : ℕ → ℕ → ℕ)
    (s : IsEmbedding (half_edges faces) l x cell vertex arc_dart) where
  abbrev pub old_laid : IsSurface l
  old_laid = laid_in _ (manifold_law faces manifold) l x paved len cell _ _ s

  pub old_model : ((f : ℕ) → f < length faces → length (face_at faces f) ≡ 4) → IsModel faces l x old_laid len cell
  old_model quads =
      let laws = manifold_law faces manifold in
      search (
        rules,
        alike _ laws l x paved len _ _ _ s,
        apart _ laws l x paved len _ _ _ s,
        across_twin _ laws l x paved len _ _ _ s,
        alone _ laws l x paved len _ _ _ s,
      )

  pub old_fans : HasFans l
  old_fans = fans_in _ (manifold_law faces manifold) l x paved len cell _ _ s
