-- The new mesh has the shape of the old one, and the old one doubles no edge.
use Rattle.std.proofs.Common.{rules, ◌≡◌, ℕ, ◌<◌, ◌≤◌, false, refl, sym, ◌∙◌, ap, inl, inr, ◌⊎◌}
use Rattle.def_mesh.specs.{Faces.Faces, Darts.from_of, Manifold.IsManifold, Vertices.faces_at, Vertices.vertex_count}
use Rattle.def_mesh.specs.{Kinds.is_inner, Kinds.is_regular, HalfEdges.half_edges, HalfEdges.IsQuadManifold}
use Rattle.def_layout.specs.Cells.{CellDart, IsDart, next}
use Rattle.def_layout.specs.{Gluings.Gluing, Gluings.use_of, Surfaces.HasWholeSides, Surfaces.IsSurface, Fans.HasFans}
use Rattle.def_layout.specs.{Lengths.Lengths, Lengths.AreLengths, Embeddings.IsEmbedding}
use Rattle.def_written.specs.Laws.{LiesInMesh, LaidLaw, NumbersLaw, NewManifoldLaw, KeepsShapeLaw, ThreeLaw}
use Rattle.def_written.specs.{Laws.MultipleLaw, Numbers.vertices, NewFaces.dart_start, NewFaces.new_faces, Edges.IsEdge}
use Rattle.def_written.specs.{NewFaces.dart_end, Edges.IsUndoubled, Shape.IsKeptNode, Shape.KeepsShape}
use Rattle.def_written.specs.Points.{Point, node, IsPoint}
use Rattle.written_laws.proofs.Courses.{Course, against, against_twice, against_ends}
use Rattle.written_laws.proofs.Courses.{course_of, course_from, course_to, edge_dart}
use Rattle.written_laws.proofs.{Fans.alike_or_turned, Sides.use_some, Sides.use_begins, Between.simple_from}
use Rattle.written_laws.proofs.ModelCounts.{IsModel, used_dart, point_dart, new_model, euler_is}
use Rattle.written_laws.proofs.OldModel.{old_laid, old_model, old_fans, twin_is_across, starts}
use Rattle.written_laws.proofs.NodeKinds.{IsVertex, vertex_from, inside_regular, along_regular, faces_le, inner_to}
use Rattle.written_laws.proofs.NewDarts.{dart_number, next_is, at_number, number_from}
use Rattle.written_laws.proofs.Borders.{at_is, at_from, from_is}
use Rattle.written_laws.proofs.Doubling.{lengths_scale, simple_three, simple_multiple}
use Rattle.written_laws.proofs.EdgeNumbers.{number_low, number_same, point_onto}
use Rattle.written_laws.proofs.Manifold.{IsSimple, simple_by, manifold}
use Rattle.{std.proofs.Common.arith, mesh_laws.proofs.Chains.manifold_law}
use Rattle.{mesh_laws.proofs.Flood.count_least, written_laws.proofs.Between.undoubled_from}
use Rattle.sum_laws.proofs.Tests.{same_test}

module _ {faces : Faces} (man : IsManifold faces) {l : Gluing} {x : Lengths} (paved : HasWholeSides l)
    (len : AreLengths l x) {cell : CellDart → ℕ} {vertex : ℕ → ℕ} {arc_dart : ℕ → ℕ → ℕ}
    (s : IsEmbedding (half_edges faces) l x cell vertex arc_dart) where
  abbrev here : IsSurface l
  here = old_laid faces man l x paved len cell _ _ s

  module _ (model : IsModel faces l x here len cell) where
    -- Darts with the same ends have one course, and those with exchanged ends run against each other.
    same_course : {d e : CellDart} → IsDart l x d → IsDart l x e → dart_start l x d ≡ dart_start l x e
        → dart_end l x d ≡ dart_end l x e → course_of l x d ≡ course_of l x e
    same_course {d} {e} is_d is_e starts ends =
        let to = model.alike (next d) (next e) (next_is l x d is_d) (next_is l x e is_e) ends in
        ap (course_of l x) (model.same d e is_d is_e (man.edges_once (cell d) (cell e) (model.low d is_d)
        (model.low e is_e) (model.alike d e is_d is_e starts, cc (model.turned d is_d, model.turned e is_e))))

    turned_course : {d e : CellDart} → IsDart l x d → IsDart l x e → dart_start l x e ≡ dart_end l x d
        → dart_end l x e ≡ dart_start l x d → course_of l x e ≡ against (course_of l x d)
    turned_course {d} {e} is_d is_e starts ends =
        let laws = manifold_law faces man in
        let from = model.alike e (next d) is_e (next_is l x d is_d) starts in
        let to = model.alike (next e) d (next_is l x e is_e) is_d ends in
        let twin = laws.twin_found _ _ (model.low d is_d) (model.low e is_e) (cc (model.turned d is_d))
        (cc (model.turned e is_e)) in
        (twin_is_across _ laws l x paved len cell vertex arc_dart s d e is_d is_e twin).course

    -- Each course is that of a dart or runs against it.
    by_dart : (k : Course) → IsEdge l x k.edge
        → (d : CellDart) × IsDart l x d × ((course_of l x d ≡ k) ⊎ (course_of l x d ≡ against k))
    by_dart k is = search (rules, edge_dart l x here len k.edge is)

    pub old_simple : IsSimple l x
    old_simple = simple_by {l = l} {x = x} (λ c k is_c is_k starts ends.
        let (d, is_d, a) = by_dart c is_c in
        let (e, is_e, b) = by_dart k is_k in
        let d_from = course_from l x here len d is_d in
        let d_to = course_to l x here len d is_d in
        let e_from = course_from l x here len e is_e in
        let e_to = course_to l x here len e is_e in
        let c_ends = against_ends l x c in
        let k_ends = against_ends l x k in
        let c_twice = against_twice c in
        let k_twice = against_twice k in
        elim a [
          | inl a ↦
              elim b [ inl b ↦ cc (same_course is_d is_e (cc) (cc)) | inr b ↦ cc (turned_course is_d is_e (cc) (cc)) ]
          | inr a ↦
              elim b [ inl b ↦ cc (turned_course is_d is_e (cc) (cc)) | inr b ↦ cc (same_course is_d is_e (cc) (cc)) ]
        ])

module _ {l : Gluing} {x : Lengths} {laid : IsSurface l} {len : AreLengths l x} {F : Faces} {cell : CellDart → ℕ}
    (model : IsModel F l x laid len cell) (laws : IsQuadManifold (half_edges F)) where
  -- A vertex of a model that is not regular is that of a node.
  irregular_node : (d : CellDart) → IsDart l x d → is_regular F (from_of F (cell d)) ≡ false
      → (n : ℕ) × (n < l.nodes) × (dart_start l x d ≡ node n)
  irregular_node d is off = by_point _ refl (from_is l x laid len d is)
    where
      by_point : (a : Point) → dart_start l x d ≡ a → IsPoint l x a → (n : ℕ) × (n < l.nodes)
          × (dart_start l x d ≡ node n)
      by_point (node n) e is_a = (n, is_a, e)
      by_point _ e is_a = search (rules, along_regular model laws, inside_regular model laws)

module _ {faces : Faces} {l : Gluing} {x : Lengths} {vertex : ℕ → ℕ} (lies : LiesInMesh faces l x vertex) where
  abbrev the_laid : IsSurface l
  the_laid = old_laid faces lies.manifold l x lies.paved lies.lengths _ _ _ lies.sided

  the_model : IsModel faces l x the_laid lies.lengths lies.cell
  the_model = old_model faces lies.manifold l x lies.paved _ _ _ _ lies.sided lies.quads

  the_fans : HasFans l
  the_fans = old_fans faces lies.manifold l x lies.paved lies.lengths _ _ _ lies.sided

  -- The vertex of a node.
  node_vertex : (n : ℕ) → n < l.nodes → IsVertex the_model (node n) (vertex n)
  node_vertex n low =
      let w = the_laid.reached n low in
      let some = use_some l x lies.paved lies.lengths _ w.1 in
      vertex_from the_model _ (at_is l x lies.paved lies.lengths _ 0 w.1 some)
      (cc (at_from l x the_laid lies.lengths _ 0 w.1 some, use_begins l x (use_of l w.0) some))
      (cc (starts _ (manifold_law faces lies.manifold) l x lies.paved lies.lengths _ _ _ lies.sided _ w.1))

  module _ {y : Lengths} (lon : AreLengths l y) (undoubled : IsUndoubled l y) where
    new_is : IsModel (new_faces l y) l y the_laid lon (dart_number l y)
    new_is = new_model l y the_laid lon (simple_from l y undoubled)

    new_manifold : IsManifold (new_faces l y)
    new_manifold = manifold the_laid lon (simple_from l y undoubled) the_fans

    new_node : (n : ℕ) → n < l.nodes → IsVertex new_is (node n) n
    new_node n low =
        let d = point_dart l y the_laid lon _ low in
        vertex_from new_is n d.1 d.2 (cc (number_from l y d.0 d.1))

    same_faces : (n : ℕ) → n < l.nodes → faces_at (new_faces l y) n ≡ faces_at faces (vertex n)
    same_faces n low =
        let no_more = faces_le (node_vertex n low) (new_node n low) in
        let no_less = faces_le (new_node n low) (node_vertex n low) in omega arith

    same_inner : (n : ℕ) → n < l.nodes → is_inner (new_faces l y) n ≡ is_inner faces (vertex n)
    same_inner n low = search (rules, same_test, inner_to, new_node, node_vertex)

    irregular : (v : ℕ) → v < vertex_count faces → is_regular faces v ≡ false
        → (n : ℕ) × (n < l.nodes) × (vertex n ≡ v) × IsKeptNode faces (new_faces l y) vertex n
    irregular v low off =
        let k = used_dart faces v lies.quads (lies.used v low) in
        let d = the_model.onto k.0 k.1 in
        let n = irregular_node the_model (manifold_law faces lies.manifold) d.0 d.1 (cc) in
        (n.0, n.1, cc ((node_vertex n.0 n.1).there d.0 d.1 n.2), (search (rules, same_inner, same_faces)))

    below : vertex_count (new_faces l y) ≤ vertices l y
    below = count_least _ _ (λ k low.
        let d = at_number l y the_laid lon k low in
        grind (arith, number_from l y d.0 d.1, number_low l y (dart_start l y d.0) (from_is l y the_laid lon d.0 d.1)))

    regular : (v : ℕ) → v < vertex_count (new_faces l y) → is_regular (new_faces l y) v ≡ false
        → (v < l.nodes) × (is_regular faces (vertex v) ≡ false)
    regular v low off =
        let a = point_onto l y v (omega (arith, low, below)) in
        let d = point_dart l y the_laid lon a.0 a.1 in
        let n = irregular_node new_is (manifold_law _ new_manifold) d.0 d.1 (cc (number_from l y d.0 d.1)) in
        search (rules, same_faces, same_inner)

    keeps : KeepsShape faces (new_faces l y) l.nodes vertex
    keeps = record {
      old_manifold = lies.manifold;
      new_manifold = new_manifold;
      euler = euler_is l y _ lon _ _ new_is ∙ sym (euler_is l x _ _ faces _ the_model);
      irregular = irregular;
      regular = regular;
    }

pub laid_law : LaidLaw
laid_law faces l x vertex lies = (the_laid lies, the_fans lies)

pub numbers_law : NumbersLaw
numbers_law l x = record { low = number_low l x; same = number_same l x; onto = point_onto l x }

pub new_manifold_law : NewManifoldLaw
new_manifold_law l x laid fans len undoubled = manifold laid len (simple_from l x undoubled) fans

pub keeps_shape_law : KeepsShapeLaw
keeps_shape_law faces l x vertex lies y lon undoubled = keeps lies lon undoubled

pub three_law : ThreeLaw
three_law l x laid len three = undoubled_from l x laid len (simple_three laid len three)

pub multiple_law : MultipleLaw
multiple_law faces l x vertex lies k some =
    let lon = lengths_scale l x k some lies.lengths in (
      lon,
      undoubled_from l _ (the_laid lies) lon (simple_multiple l x (the_laid lies) lies.lengths
          (old_simple lies.manifold lies.paved _ lies.sided (the_model lies)) k some),
    )
