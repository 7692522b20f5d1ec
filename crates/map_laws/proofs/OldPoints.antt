-- The old vertices at the points of a layout are those that the darts of the mesh leave there.
use Rattle.std.proofs.Common.{◌≡◌, ℕ, ◌+◌, ◌<◌, length, refl, sym, ◌∙◌, ap, subst, arith, suc, ◌-◌, ◌≤◌, List, Option}
use Rattle.std.proofs.Common.{None, Some}
use Rattle.def_mesh.specs.{Darts.darts, Darts.next_of, Darts.from_of, Darts.to_of, HalfEdges.half_edges}
use Rattle.def_mesh.specs.{Vertices.vertex_count}
use Rattle.def_layout.specs.Gluings.{Way, south, east, north, west, Gluing, use_of}
use Rattle.def_layout.specs.{Cells.CellDart, Cells.IsDart, Cells.dart, Cells.slot_dart, Lengths.Lengths}
use Rattle.def_layout.specs.{Lengths.wide, Lengths.high, Lengths.AreLengths, Arcs.dart_at, Arcs.long_at}
use Rattle.def_layout.specs.{Surfaces.IsSurface, Layouts.Layout, Layouts.gluing_of, Layouts.vertex_at}
use Rattle.def_layout.specs.{Embeddings.IsEmbedding, declared.tmesh.SideArc.SideArc}
use Rattle.def_written.specs.Points.{Point, node, along, inside, IsPoint, arc_point, use_point, point}
use Rattle.def_written.specs.{Laws.LiesInMesh, NewFaces.dart_start, NewFaces.face_count, Places.ONE, Spacings.IsSpacing}
use Rattle.def_remesh.specs.{NewPoints.old_vertex, Spaced.shares_along, Spaced.spacing_by}
use Rattle.def_remesh.specs.{declared.limits.TheConstants.MAX_NEW_FACES}
use Rattle.mesh_laws.proofs.{Chains.manifold_law, Flood.all_below}
use Rattle.embedding_laws.proofs.{Bounds.lies, Bounds.laid_of, Bounds.lengths_of, Bounds.vertices_few, Lies.cell_dart}
use Rattle.embedding_laws.proofs.{OneLayout.in_mesh as sides_in_mesh}
use Rattle.written_laws.proofs.{Borders.at_is, Borders.at_from, Borders.at_to, Borders.from_is, Sides.use_begins}
use Rattle.written_laws.proofs.{Sides.use_some, Sides.arc_inner, Rims.point_inside, NewDarts.next_is}
use Rattle.written_laws.proofs.{OldModel.old_model, OldModel.starts, Spacings.count_rises, Spacings.even_law}
use Rattle.written_laws.proofs.{Spacings.shared_law}
use Rattle.{def_cut.specs.Grids.cell_of, def_cut.specs.Grids.patch_at, def_layoutnet.specs.MeshLayouts.IsSomeLayout}

module _ (layout : Layout) (is : IsSomeLayout layout) where
  abbrev pub l : Gluing
  l = gluing_of layout

  abbrev pub x : Lengths
  x = long_at layout.arcs

  laid : IsSurface (gluing_of layout)
  laid = laid_of layout is

  len : AreLengths (gluing_of layout) (long_at layout.arcs)
  len = lengths_of layout is

  in_mesh : LiesInMesh is.faces (gluing_of layout) (long_at layout.arcs) (vertex_at layout)
  in_mesh = lies layout is

  -- The dart of the mesh for a dart of a cell.
  abbrev cell : (d : CellDart) → ℕ
  cell = cell_dart (half_edges is.faces) layout

  sided : IsEmbedding (half_edges is.faces) (gluing_of layout) (long_at layout.arcs)
      (cell_dart (half_edges is.faces) layout) (vertex_at layout) (dart_at layout.arcs)
  sided = sides_in_mesh is.faces is.marks layout is.mesh is.quads is.cut is.laid

  -- At each point a dart leaves the old vertex.
  point_vertex : (a : Point) → IsPoint l x a → (d : CellDart) × IsDart l x d × (dart_start l x d ≡ a)
      × (from_of is.faces (cell d) ≡ old_vertex is.faces layout a)
  point_vertex (node n) low =
      let r = laid.reached n low in
      let some = use_some l x laid.paved len _ r.1 in (
        slot_dart l x r.0 0,
        at_is l x laid.paved len _ 0 r.1 some,
        cc (at_from l x laid len _ 0 r.1 some, use_begins l x (use_of l r.0) some),
        cc (starts _ (manifold_law is.faces in_mesh.manifold) l x in_mesh.paved in_mesh.lengths _ _ _ sided _ r.1),
      )
  point_vertex (along a k) low =
      let f = laid.forward a low.0 in
      let less : k < x (use_of l f.0).arc = omega (arith, ap (λ (u : SideArc). x u.arc) f.2) in (
        slot_dart l x f.0 k,
        at_is l x laid.paved len _ k f.1 less,
        cc (at_from l x laid len _ k f.1 less, arc_inner l x a k low.1 low.2),
        ap (from_of is.faces) (cc (sided.ahead f.0 k f.1 less (ap (λ (u : SideArc). u.forward) f.2))),
      )
  point_vertex (inside p i j) low = (
    dart p i j south,
    record { patch_low = low.0; i_low = low.2; j_low = low.4 },
    point_inside l x laid len p i j low.1 low.2 low.3 low.4,
    refl,
  )

  -- It is a vertex of the mesh.
  pub old_low : (a : Point) → IsPoint (gluing_of layout) (long_at layout.arcs) a
      → old_vertex is.faces layout a < vertex_count is.faces
  old_low a low =
      let e = point_vertex a low in
      subst (λ v. v < vertex_count is.faces) e.3 (all_below is.faces (cell e.0) (sided.low e.0 e.1))

  old_from : (d : CellDart) → IsDart l x d → old_vertex is.faces layout (dart_start l x d) ≡ from_of is.faces (cell d)
  old_from d is_d =
      let (e, is_e, same, from) = point_vertex (dart_start l x d) (from_is l x laid len d is_d) in
      sym from ∙ (old_model is.faces in_mesh.manifold l x in_mesh.paved in_mesh.lengths cell (vertex_at layout)
      (dart_at layout.arcs) sided in_mesh.quads).alike e d is_e is_d same

  -- The corners of an old cell.
  pub record AreCorners (p a b d : ℕ) : Type 0 where
    pub low : d < darts is.faces
    pub south_west : old_vertex is.faces layout (point l x p a b) ≡ from_of is.faces d
    pub south_east : old_vertex is.faces layout (point l x p (a + 1) b) ≡ from_of is.faces (next_of d)
    pub north_east : old_vertex is.faces layout (point l x p (a + 1) (b + 1)) ≡ from_of is.faces (next_of (next_of d))
    pub north_west : old_vertex is.faces layout (point l x p a (b + 1))
        ≡ from_of is.faces (next_of (next_of (next_of d)))

  pub corners : (p a b : ℕ) → p < length layout.patches → a < wide l x p → b < high l x p
      → AreCorners p a b (cell_of (patch_at layout.patches p) a b)
  corners p a b p_low a_low b_low = record {
    low = sided.low (dart p a b _) (at south);
    south_west = old_from _ (at south);
    south_east = cc (old_from _ (at east), sided.turned (dart p a b south));
    north_east = cc (old_from _ (at north), sided.turned (dart p a b _), sided.turned (dart p a b south));
    north_west = cc (
      old_from (dart p a b west) (at west),
      sided.turned (dart p a b north),
      sided.turned (dart p a b east),
      sided.turned (dart p a b south),
    );
  }
    where
      at : (w : Way) → IsDart l x (dart p a b w)
      at w = record { patch_low = p_low; i_low = a_low; j_low = b_low }

  -- The ends of a dart of an arc.
  pub record AreEnds (a i d : ℕ) : Type 0 where
    pub low : d < darts is.faces
    pub first : old_vertex is.faces layout (arc_point l x a i) ≡ from_of is.faces d
    pub last : old_vertex is.faces layout (arc_point l x a (i + 1)) ≡ to_of is.faces d

  pub ends : (a i : ℕ) → a < length layout.arcs → i < long_at layout.arcs a → AreEnds a i (dart_at layout.arcs a i)
  ends a i a_low i_low =
      let (w, slot, same) = laid.forward a a_low in
      let less : i < x (use_of l w).arc = omega (arith, i_low, ap (λ (u : SideArc). x u.arc) same) in
      let d = slot_dart l x w i in
      let is_dart = at_is l x laid.paved len w i slot less in
      let here : cell (slot_dart l x w i) ≡ dart_at layout.arcs a i = sided.ahead w i slot less
      (ap (λ (u : SideArc). u.forward) same) ∙ ap (λ (u : SideArc). dart_at layout.arcs u.arc i) same in
      record {
        low = sided.arc_low a i a_low i_low;
        first = ap (old_vertex is.faces layout)
            (sym (at_from l x laid len w i slot less ∙ ap (λ (u : SideArc). use_point l x u i) same))
            ∙ old_from d is_dart ∙ ap (from_of is.faces) here;
        last = ap (old_vertex is.faces layout)
            (sym (at_to l x laid len w i slot less ∙ ap (λ (u : SideArc). use_point l x u (i + 1)) same))
            ∙ old_from _ (next_is l x d is_dart) ∙ ap (from_of is.faces) (sided.turned d ∙ ap next_of here);
      }

-- The points of a new mesh are spaced, evenly or by any shares.

module _ (layout : Layout) (is : IsSomeLayout layout) (new : Lengths) (len : AreLengths (gluing_of layout) new)
    (few : face_count (gluing_of layout) new ≤ MAX_NEW_FACES) where
  -- No arc is longer than a parameter has parts.
  short : (arc : ℕ) → arc < length layout.arcs → new arc ≤ ONE
  short arc low = omega (
    arith,
    vertices_few _ _ (laid_of _ is) len,
    count_rises (λ a. new a - 1) (suc arc) (length layout.arcs) (omega (arith, low)),
  )

  pub spacing_is : (shares : Option (List ℕ))
      → IsSpacing (gluing_of layout) (long_at layout.arcs) new (spacing_by layout shares new)
  spacing_is None = even_law (gluing_of layout) (long_at layout.arcs) new (lengths_of layout is) len
  spacing_is (Some shares) = shared_law (gluing_of layout) (long_at layout.arcs) new (shares_along layout shares)
      (lengths_of layout is) len short
