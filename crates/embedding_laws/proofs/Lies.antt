-- The layout of a full cut lies in the mesh.
use Rattle.std.proofs.Common.{rules, ◌≡◌, ℕ, zero, suc, ◌<◌, refl, sym, ap, ◌⊎◌, ◌+◌, ◌-◌, Bool, true, false}
use Rattle.std.proofs.Common.{length, Some, None, ◌∙◌, subst, inl, inr, arith}
use Rattle.std.proofs.lemmas.{Bool.cases_Bool, Bool.cases_eq, Bool.cases_lt, Bool.false≢true}
use Rattle.def_mesh.specs.HalfEdges.{HalfEdges, IsQuadManifold}
use Rattle.def_cut.specs.{Grids.cell_of, Grids.patch_at, Grids.IsGrid, Grids.IsSide, Steps.spin, Cuts.Cut, Cuts.IsCut}
use Rattle.def_layout.specs.Gluings.{Way, south, east, north, west, side_after, Gluing, Slot, IsSlot, use_of}
use Rattle.def_layout.specs.Gluings.{start_node}
use Rattle.def_layout.specs.Layouts.{way_number, Layout, vertex_at, gluing_of, IsDartLayout}
use Rattle.def_layout.specs.{Lengths.reach, Lengths.wide, Lengths.high, Lengths.AreLengths, Cells.CellDart}
use Rattle.def_layout.specs.{Cells.IsDart, Cells.dart, Cells.dart_along, Cells.slot_dart, Arcs.end_vertex, Arcs.IsRun}
use Rattle.def_layout.specs.{Arcs.LiesAt, Arcs.path_at, Arcs.dart_at, Arcs.long_at, declared.tmesh.SideArc.SideArc}
use Rattle.def_layout.specs.{Surfaces.IsOtherSlot, Embeddings.IsEmbedding, Borders.side_size}
use Rattle.def_layout.specs.{Borders.border_dart, Nodes.AreNodes}
use Rattle.list_laws.proofs.Filters.{IsKept, kept_at, rises}
use Rattle.layout_laws.proofs.{Runs.none_or, Runs.run_inner, Borders.line, Borders.on_side, Borders.line_from}
use Rattle.written_laws.proofs.Sides.{slot, IsOn, place_on}
use Rattle.embedding_laws.proofs.ArcUses.{dart_low, same_use}

module _ (m : HalfEdges) (laws : IsQuadManifold m) where
  pub spin_low : (k c : ℕ) → c < m.count → spin m k c < m.count
  spin_low zero c low = low
  spin_low (suc k) c low = laws.next_low _ (spin_low k c low)

  pub spin_after : (w : Way) (c : ℕ) → spin m (way_number (side_after w)) c ≡ m.next (spin m (way_number w) c)
  spin_after west c = sym (laws.four_sides c)
  spin_after _ c = refl

  pub spin_way : (k c : ℕ) → (w : Way) × (spin m k c ≡ spin m (way_number w) c)
  spin_way zero c = (south, refl)
  spin_way (suc k) c = search (rules, spin_way k c)

  pub spin_once : (c : ℕ) (w v : Way) → c < m.count → spin m (way_number w) c ≡ spin m (way_number v) c → w ≡ v
  spin_once c w v h1 h2 = search (rules, spin_low)

  pub prev_is : (c : ℕ) → m.next (m.next (m.next c)) ≡ m.prev c
  prev_is c = cc (laws.next_prev c, laws.four_sides (m.prev c))

-- The dart of the mesh for a dart of a cell.
abbrev pub cell_dart : (m : HalfEdges) (layout : Layout) (d : CellDart) → ℕ
cell_dart m layout d = spin m (way_number d.way) (cell_of (patch_at layout.patches d.patch) d.i d.j)

module _ {m : HalfEdges} (laws : IsQuadManifold m) {cut : Cut} (full : IsCut m cut) {node : ℕ → Bool} (nodes : AreNodes
    m cut node) {face : ℕ → ℕ} {v_count : ℕ} {t : Layout} (lay : IsDartLayout m cut node face v_count t) where
  abbrev l : Gluing
  l = gluing_of t

  abbrev x : ℕ → ℕ
  x = long_at t.arcs

  arc_run : (a : ℕ) → a < length t.arcs → IsRun m cut node (dart_at t.arcs a 0) (long_at t.arcs a)
  arc_run a low = (lay.arcs.each a low).run

  pub lengths : AreLengths l x
  lengths = record {
    some = λ a low. (arc_run a low).some;
    across = λ p low. lay.sizes p north low ∙ sym (lay.sizes p south low);
    upright = λ p low. lay.sizes p east low ∙ sym (lay.sizes p west low);
  }

  grid : (p : ℕ) → p < length t.patches → IsGrid m cut (patch_at t.patches p).w (patch_at t.patches p).h
      (cell_of (patch_at t.patches p))
  grid p low = (lay.patches.patch p low).grid

  cell_side : (d : CellDart) → IsDart l x d → IsSide m (patch_at t.patches d.patch) d.i d.j (way_number d.way)
      (cell_dart m t d)
  cell_side d is = search rules

  corner_low : (d : CellDart) → IsDart l x d → cell_of (patch_at t.patches d.patch) d.i d.j < m.count
  corner_low d is = (grid _ is.patch_low).low d.i d.j (cell_side d is).i_low (cell_side d is).j_low

  same : (d e : CellDart) → IsDart l x d → IsDart l x e → cell_dart m t d ≡ cell_dart m t e → d ≡ e
  same d e is_d is_e equal =
      let s : (d.patch ≡ e.patch) × (d.i ≡ e.i)
      × (d.j ≡ e.j) = lay.patches.once _ _ d.i d.j _ _ e.i e.j _ is_d.patch_low is_e.patch_low (cell_side d is_d) (subst
      (λ (k : ℕ). IsSide m (patch_at t.patches e.patch) e.i e.j (way_number e.way) k) (sym equal) (cell_side e is_e)) in
      search (rules, spin_once, corner_low)

  onto : (k : ℕ) → k < m.count → (d : CellDart) × IsDart l x d × (cell_dart m t d ≡ k)
  onto k low =
      let (p, i, j, q, p_low, side) = lay.patches.covers k low in
      let w = spin_way m laws q (cell_of (patch_at t.patches p) i j) in
      (dart p i j w.0, search rules, cc (w.1, side.is))

  -- Nodes have vertices of their own.
  pub node_kept : (n : ℕ) → n < length t.nodes → IsKept node 0 v_count (vertex_at t n)
  node_kept n low = rw lay.nodes (kept_at node 0 v_count n (rw (← lay.nodes) low))

  pub vertex_same : (i j : ℕ) → i < length t.nodes → j < length t.nodes → vertex_at t i ≡ vertex_at t j → i ≡ j
  vertex_same = search (rules, rises)

  -- Border darts by side and place.
  rim_dart : (p : ℕ) (s : Way) (k : ℕ) → p < length t.patches → cell_dart m t (dart_along l x p s k)
      ≡ border_dart m (patch_at t.patches p) s k
  rim_dart p s k low = search (rules, lay.sizes p south low, lay.sizes p west low, prev_is m laws)

  -- A dart of the cut lies at a slot.
  pub record StandsAt (d : ℕ) (w : Slot) (o : ℕ) : Type 0 where
    pub is_slot : IsSlot l w
    pub low : o < x (use_of l w).arc
    pub lies : LiesAt m (path_at t.arcs (use_of l w).arc).darts (use_of l w).forward o d

  pub stands : (d : ℕ) → d < m.count → cut d ≡ true → (w : Slot) × (o : ℕ) × StandsAt d w o
  stands d low on =
      let (p, i, j, q, p_low, side) = lay.patches.covers d low in
      let (s, k, less, is) = on_side m laws _ full _ (grid p p_low) q i j d side.i_low side.j_low side.is on in
      let on : IsOn l x p s k _ _ = place_on l x p s k p_low (omega (arith, lay.sizes p s p_low)) in (
        slot p s _,
        _,
        record {
          is_slot = on.is_slot;
          low = on.inside;
          lies = subst (LiesAt m _ _ _) (cc) (lay.used _ _ on.is_slot on.inside);
        },
      )

  -- What lies on an arc has one slot's use.
  one_use : (a : ℕ) (f : Bool) (k d : ℕ) (w : Slot) (o : ℕ) → a < length t.arcs → k < long_at t.arcs a → LiesAt m
      (path_at t.arcs a).darts f k d → StandsAt d w o → ((use_of l w).arc ≡ a) × ((use_of l w).forward ≡ f) × (o ≡ k)
  one_use a f k d w o a_low k_low at s = search (rules, same_use)

  arc_dart_low : (a k : ℕ) → a < length t.arcs → k < long_at t.arcs a → dart_at t.arcs a k < m.count
  arc_dart_low a k low less = dart_low m laws cut full node nodes t.arcs lay.arcs a k low less

  arc_on : (a k : ℕ) → a < length t.arcs → k < long_at t.arcs a → cut (dart_at t.arcs a k) ≡ true
  arc_on a k low less = ap cut ((lay.arcs.each a low).each k less) ∙ (arc_run a low).on k less

  forward : (a : ℕ) → a < l.arcs → (w : Slot) × IsSlot l w × (use_of l w ≡ record { arc = a; forward = true })
  forward a low =
      let (w, o, s) = stands (dart_at t.arcs a 0) (arc_dart_low a 0 low (arc_run a low).some)
      (arc_on a 0 low (arc_run a low).some) in
      let u = one_use a true 0 (dart_at t.arcs a 0) w o low (arc_run a low).some refl s in
      (w, s.is_slot, λ r. record { arc = u.0 r; forward = u.1 r })

  -- The twin of a dart of an arc has a slot that uses the arc the other way round.
  twin_slot : (a k u : ℕ) → a < length t.arcs → k < long_at t.arcs a → m.twin (dart_at t.arcs a k) ≡ Some u
      → (v : Slot) × IsSlot l v × ((use_of l v).arc ≡ a) × ((use_of l v).forward ≡ false)
  twin_slot a k u low less twin =
      let d_low = arc_dart_low a k low less in
      let e : long_at t.arcs a - 1 - (long_at t.arcs a - 1 - k) ≡ k = omega arith in
      let (v, o, s) = stands u (laws.twin_low _ u d_low twin) (full.alike _ u d_low twin ∙ arc_on a k low less) in
      let one = one_use a _ _ u v o low (omega arith) (ap (λ i. m.twin (dart_at t.arcs a i)) e ∙ twin) s in
      (v, s.is_slot, one.0, one.1)

  ahead_is : (w : Slot) (k : ℕ) → IsSlot l w → k < x (use_of l w).arc → (use_of l w).forward ≡ true
      → cell_dart m t (slot_dart l x w k) ≡ dart_at t.arcs (use_of l w).arc k
  ahead_is w k is less e =
      let rim = rim_dart w.patch w.side (reach l x w.patch w.side w.at + k) is.patch_low in
      rw rim (rw e at (lay.used w k is less))

  behind_is : (w : Slot) (k : ℕ) → IsSlot l w → k < x (use_of l w).arc → (use_of l w).forward ≡ false
      → m.twin (dart_at t.arcs (use_of l w).arc (x (use_of l w).arc - 1 - k)) ≡ Some (cell_dart m t (slot_dart l x w k))
  behind_is w k is less e =
      let rim = rim_dart w.patch w.side (reach l x w.patch w.side w.at + k) is.patch_low in
      rw rim (rw e at (lay.used w k is less))

  -- An arc has a slot the other way round where its first dart has a twin.
  other : (w : Slot) → IsSlot l w → ((v : Slot) × IsOtherSlot l w v) ⊎ ((v : Slot) → ¬ IsOtherSlot l w v)
  other w is = elim (none_or (m.twin (dart_at t.arcs (use_of l w).arc 0))) [
    | inl none ↦ inr (λ v o. elim (cases_Bool (use_of l w).forward) [
      | inl e ↦ backward v o.0 o.1.arc (cc (o.1.turned)) none
      | inr e ↦ backward w is refl e none
    ])
    | inr (u, twin) ↦ inl (elim (cases_Bool (use_of l w).forward) [
      | inl e ↦ search (rules, twin_slot)
      | inr e ↦
          let (v, is_v, used) = forward (use_of l w).arc a_low in
          (v, (is_v, record { arc = ap (λ (z : SideArc). z.arc) used; turned = cc }))
    ])
  ]
    where
      a_low : (use_of l w).arc < length t.arcs
      a_low = lay.uses w is

      -- A slot against the arc's direction makes the first dart have a twin.
      backward : (v : Slot) → IsSlot l v → (use_of l v).arc ≡ (use_of l w).arc → (use_of l v).forward ≡ false
          → m.twin (dart_at t.arcs (use_of l w).arc 0) ≡ None → ⊥
      backward v is_v arc way none =
          let low : long_at t.arcs (use_of l v).arc - 1 < long_at t.arcs (use_of l v).arc = search rules in
          let zero_is : long_at t.arcs (use_of l v).arc - 1 - (long_at t.arcs (use_of l v).arc - 1) ≡ 0 = omega arith in
          search (rules, behind_is)

  alone : (a k : ℕ) → a < l.arcs → k < x a → ((w : Slot) → IsSlot l w → (use_of l w).arc ≡ a → (use_of l w).forward
      ≡ true) → m.twin (dart_at t.arcs a k) ≡ None
  alone a k low less all = elim (none_or (m.twin (dart_at t.arcs a k))) [
    | inl none ↦ none
    | inr (u, e) ↦ let (v, is_v, arc, way) = twin_slot a k u low less e in absurd (cc (all v is_v arc))
  ]

  last_vertex : (a : ℕ) → a < l.arcs → m.from (m.next (dart_at t.arcs a (x a - 1))) ≡ vertex_at t (l.last a)
  last_vertex a low = sym (lay.last_at a _ low (omega (arith, (arc_run a low).some)))

  -- A dart of the cut that leaves a node begins a slot's arc there.
  node_starts : (n d : ℕ) → n < l.nodes → d < m.count → cut d ≡ true → m.from d ≡ vertex_at t n → (w : Slot)
      × IsSlot l w × (start_node l (use_of l w) ≡ n)
  node_starts n d n_low d_low on leaves = let (w, o, s) = stands d d_low on in search (rules, go)
    where
      is_node_here : node (m.from d) ≡ true
      is_node_here = ap node leaves ∙ (node_kept n n_low).passes

      -- Past its beginning an arc meets no node.
      go : (a : ℕ) (f : Bool) (o : ℕ) → a < length t.arcs → o < long_at t.arcs a
          → LiesAt m (path_at t.arcs a).darts f o d → start_node l (record { arc = a; forward = f }) ≡ n
      go a true zero a_low o_low at =
          vertex_same _ n (lay.first_low a a_low) n_low (lay.first_at a a_low ∙ ap m.from (sym at) ∙ leaves)
      go a true (suc o) a_low o_low
          at = absurd (false≢true (sym (run_inner m laws _ full _ nodes _ _ (arc_run a a_low) o o_low)
          ∙ ap (λ k. node (m.from k)) (sym (at ∙ (lay.arcs.each a a_low).each (suc o) o_low)) ∙ is_node_here))
      go a false o a_low o_low at =
          let k_low : long_at t.arcs a - 1 - o < long_at t.arcs a = omega arith in
          let ends = (laws.twin_ends (dart_at _ a _) d (arc_dart_low a _ a_low k_low) at).0 in
          elim (cases_eq o 0) [
            | inl z ↦
                let e : long_at t.arcs a - 1 ≡ long_at t.arcs a - 1 - o = omega arith in
                search (rules, vertex_same, last_vertex)
            | inr some ↦ search (rules, is_node_here)
          ]

  -- After a dart of the cut comes one that leaves its end.
  pub goes_on : (d : ℕ) → d < m.count → cut d ≡ true → (e : ℕ) × (e < m.count) × (cut e ≡ true)
      × (m.from e ≡ end_vertex m d)
  goes_on d low on =
      let (p, i, j, q, p_low, side) = lay.patches.covers d low in
      let patch = patch_at t.patches p in
      let (s, k, less, is) = on_side m laws cut full patch (grid p p_low) q i j d side.i_low side.j_low side.is on in
      let b = line m laws cut full patch (grid p p_low) s in
      elim (cases_lt (suc k) (side_size (patch_at t.patches p) s)) [
        | inl more ↦ (
          border_dart m patch s (suc k),
          b.low (suc k) more,
          b.on (suc k) more,
          cc (line_from m laws cut full node nodes (border_dart m patch s) (side_size patch s) b k more),
        )
        | inr last ↦ (m.next d, laws.next_low d low, cc (b.last k (omega arith)), refl)
      ]

  -- All that a layout needs of its mesh, where an edge of the cut ends at each node.
  pub sided : ((n : ℕ) → n < l.nodes → (e : ℕ) × (e < m.count) × (cut e ≡ true) × ((m.from e ≡ vertex_at t n)
      ⊎ (end_vertex m e ≡ vertex_at t n))) → IsEmbedding m l x (cell_dart m t) (vertex_at t) (dart_at t.arcs)
  sided met = record {
    low = λ d is. spin_low m laws _ _ (corner_low d is);
    same = same;
    onto = onto;
    vertex_same = vertex_same;
    turned = λ d. spin_after m laws d.way _;
    east_of = east_of;
    north_of = north_of;
    forward = forward;
    other = other;
    reached = reached;
    arc_low = arc_dart_low;
    ahead = ahead_is;
    behind = behind_is;
    alone = alone;
    first_at = λ a low. sym (lay.first_at a low);
    last_at = last_vertex;
  }
    where
      east_of : (p i j : ℕ) → p < l.patches → i + 1 < wide l x p → j < high l x p
          → m.twin (cell_dart m t (dart p i j east)) ≡ Some (cell_dart m t (dart p (i + 1) j west))
      east_of p i j low i_low j_low =
          let one : suc i ≡ i + 1 = omega arith in
          cc (
            (grid p low).east i j (omega (arith, lay.sizes p south low)) (omega (arith, lay.sizes p west low)),
            prev_is m laws (cell_of (patch_at t.patches p) (i + 1) j),
          )

      north_of : (p i j : ℕ) → p < l.patches → i < wide l x p → j + 1 < high l x p
          → m.twin (cell_dart m t (dart p i j north)) ≡ Some (cell_dart m t (dart p i (j + 1) south))
      north_of p i j low i_low j_low =
          let one : suc j ≡ j + 1 = omega arith in
          cc ((grid p low).north i j (omega (arith, lay.sizes p south low)) (omega (arith, lay.sizes p west low)))

      reached : (n : ℕ) → n < l.nodes → (w : Slot) × IsSlot l w × (start_node l (use_of l w) ≡ n)
      reached n low =
          let (e, e_low, on, ends) = met n low in
          elim ends [
            | inl leaves ↦ node_starts n e low e_low on leaves
            | inr arrives ↦ search (rules, goes_on, node_starts)
          ]
