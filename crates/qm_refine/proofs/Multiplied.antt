-- Multiples of the old lengths as lengths of a layout.
use Rattle.std.proofs.Common.{◌≡◌, ℕ, ◌*◌, ◌^◌, ◌<◌, ◌≤◌, ◌⊎◌, List, [], ◌∷◌, length, map, get_or, inl, inr, refl, ap}
use Rattle.std.proofs.Common.{◌∙◌, arith}
use Rattle.std.proofs.{lemmas.Bool.cases_lt, Math.ListN.get_or-eq_default, Math.ListN.get_or-map}
use Rattle.std.proofs.{Math.Nat.mul-le-mul_right}
use Rattle.def_layout.specs.{Arcs.dart_at, Arcs.long_at, Arcs.path, Arcs.Path, Lengths.AreLengths, Nodes.is_node}
use Rattle.def_layout.specs.{Nodes.AreNodes, Layouts.Layout, Layouts.gluing_of, Layouts.layout_of, Layouts.vertex_at}
use Rattle.def_layout.specs.{declared.tmesh.TArc.TArc, declared.tmesh.TMesh.TMesh}
use Rattle.def_mesh.specs.{Darts.darts, HalfEdges.half_edges, HalfEdges.IsQuadManifold}
use Rattle.def_remesh.specs.NewPoints.{lengths_in, multiple_of}
use Rattle.embedding_laws.proofs.{ArcUses.dart_low, ArcUses.same_dart, OneLayout.embedding_law}
use Rattle.{std.specs.List.All, def_cut.specs.Cuts.IsCut, def_cut.specs.FullCut.is_on}
use Rattle.{def_layoutnet.specs.MeshLayouts.IsSomeLayout, def_flow.specs.declared.limits.TheConstants.MAX_LENGTH}
use Rattle.{def_run.specs.declared.command.TheConstants.MAX_MULTIPLE, cut_laws.proofs.Pigeon.no_more}
use Rattle.{mesh_laws.proofs.Chains.manifold_law, face_laws.proofs.FullCuts.full_cut_law}
use Rattle.{layout_laws.proofs.FaceNodes.are_nodes, written_laws.proofs.Shape.multiple_law}
use Rattle.std.proofs.lemmas.List as lists

-- The lengths of the arcs of a layout, times a number.
abbrev pub multiples_of : (by : ℕ) (arcs : List Path) → List ℕ
multiples_of by arcs = map (λ (arc : Path). by * length arc.darts) arcs

-- They are that multiple of the old lengths, also where there is no arc.
pub multiple_is : (by : ℕ) (arcs : List Path) (lengths : List ℕ) → lengths ≡ multiples_of by arcs
    → lengths_in lengths ≡ multiple_of by (long_at arcs)
multiple_is by arcs lengths is = λ i a. (ap (λ (xs : List ℕ). get_or xs a 0) is ∙ each a) i
  where
    each : (a : ℕ) → get_or (multiples_of by arcs) a 0 ≡ by * long_at arcs a
    each a =
        let none : 0 ≡ by * 0 = omega arith in
        ap (λ (d : ℕ). get_or (multiples_of by arcs) a d) none
        ∙ get_or-map (λ (arc : Path). by * length arc.darts) arcs a (record { first = 0; last = 0; darts = [] })

module _ (layout : Layout) (is : IsSomeLayout layout) where
  laws : IsQuadManifold (half_edges is.faces)
  laws = manifold_law is.faces is.mesh.manifold

  cut : IsCut (half_edges is.faces) (is_on is.marks)
  cut = ((full_cut_law is.faces is.marks is.mesh.manifold).0 is.cut).1

  nodes : AreNodes (half_edges is.faces) (is_on is.marks) (is_node is.faces is.marks)
  nodes = are_nodes is.faces laws is.marks cut

  -- An arc has no dart twice.
  arc_few : (a : ℕ) → a < length layout.arcs → long_at layout.arcs a ≤ darts is.faces
  arc_few a low = no_more (long_at layout.arcs a) (darts is.faces) (dart_at layout.arcs a) (λ d. d)
      (λ i j li lj e. (same_dart (half_edges is.faces) laws (is_on is.marks) cut (is_node is.faces is.marks) nodes
      layout.arcs is.laid.arcs a a i j low low li lj e).1) (λ k l. (
        dart_at layout.arcs a k,
        dart_low (half_edges is.faces) laws (is_on is.marks) cut
            (is_node is.faces is.marks) nodes layout.arcs is.laid.arcs a k low l,
        refl,
      ))

  -- So no length is great.
  long_few : (a : ℕ) → long_at layout.arcs a ≤ 2 ^ 23
  long_few a = by_place (cases_lt a (length layout.arcs))
    where
      by_place : (a < length layout.arcs) ⊎ (length layout.arcs ≤ a) → long_at layout.arcs a ≤ 2 ^ 23
      by_place (inl low) = omega (arith, arc_few a low, is.mesh.few)
      by_place (inr high) =
          let none : long_at layout.arcs a ≡ 0 = ap (λ (p : Path). length p.darts)
          (get_or-eq_default layout.arcs (record { first = 0; last = 0; darts = [] }) high) in
          omega (arith, none)

  -- Nor is a multiple.
  pub multiple_few : (by a : ℕ) → by ≤ MAX_MULTIPLE → multiple_of by (long_at layout.arcs) a ≤ MAX_LENGTH
  multiple_few by a few =
      let one : by * long_at layout.arcs a ≤ 1000 * long_at layout.arcs a = mul-le-mul_right (long_at layout.arcs a)
      few in
      omega (arith, one, long_few a)

  -- A multiple of the old lengths is equal on opposite sides, too.
  pub are_multiples : (by : ℕ) → 0 < by → AreLengths (gluing_of layout) (multiple_of by (long_at layout.arcs))
  are_multiples by some = (multiple_law is.faces (gluing_of layout) (long_at layout.arcs) (vertex_at layout)
      (embedding_law is.faces is.marks layout is.mesh is.quads is.cut is.laid) by some).0

-- Each arc is short.
pub arcs_short : (t : TMesh) → IsSomeLayout (layout_of t)
    → All (λ (run : TArc). length run.darts.items < 2 ^ 32) t.arcs.items
arcs_short t is k d l =
    let long : long_at (layout_of t).arcs k ≡ length (get_or t.arcs.items k d).darts.items =
    ap (λ (p : Path). length p.darts) (lists.get_or-map path t.arcs.items k d (record {
      first = 0;
      last = 0;
      darts = [];
    }) l) in
    omega (arith, long, long_few (layout_of t) is k)

-- The multiples of a layout's arcs.
pub multiples_told : (by : ℕ) (arcs : List TArc) → map (λ (arc : TArc). by * length arc.darts.items) arcs
    ≡ multiples_of by (map path arcs)
multiples_told by [] = refl
multiples_told by (arc ∷ arcs) = ap (λ (xs : List ℕ). (by * length arc.darts.items) ∷ xs) (multiples_told by arcs)
