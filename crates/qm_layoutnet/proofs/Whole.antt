-- What the layout of a mesh gives: its arcs have at most all darts, and its patches at most all faces.
use Rattle.std.proofs.Common.{rules, ◌≡◌, ℕ, ◌-◌, ◌^◌, ◌<◌, ◌≤◌, length, refl, ap, arith}
use Rattle.std.{proofs.lemmas.List.get_or-map, proofs.lemmas.List.length-map, specs.List.All}
use Rattle.def_math.specs.{Counts.count_below, Runs.run_at}
use Rattle.def_mesh.specs.{Darts.darts, HalfEdges.half_edges, HalfEdges.IsQuadManifold}
use Rattle.def_cut.specs.{Cuts.IsCut, FullCut.is_on, Grids.cell_of, Grids.patch_at, Grids.rectangle, Grids.IsSide}
use Rattle.def_layout.specs.{Arcs.dart_at, Arcs.long_at, declared.tmesh.TArc.TArc, declared.tmesh.TMesh.TMesh}
use Rattle.def_layout.specs.{Nodes.is_node, Nodes.AreNodes, Layouts.Layout, Layouts.layout_of}
use Rattle.embedding_laws.proofs.ArcUses.{dart_low, same_dart}
use Rattle.{def_layoutnet.specs.MeshLayouts.IsSomeLayout, qm_layoutnet.proofs.Built.term_low}
use Rattle.{written_laws.proofs.Spacings.run_here, cut_laws.proofs.Pigeon.no_more, mesh_laws.proofs.Chains.manifold_law}
use Rattle.{face_laws.proofs.FullCuts.full_cut_law, layout_laws.proofs.FaceNodes.are_nodes}

module _ (layout : Layout) (is : IsSomeLayout layout) where
  laws : IsQuadManifold (half_edges is.faces)
  laws = manifold_law is.faces is.mesh.manifold

  cut : IsCut (half_edges is.faces) (is_on is.marks)
  cut = ((full_cut_law is.faces is.marks is.mesh.manifold).0 is.cut).1

  nodes : AreNodes (half_edges is.faces) (is_on is.marks) (is_node is.faces is.marks)
  nodes = are_nodes is.faces laws is.marks cut

  -- They are darts of the mesh.
  pub arc_inside : (a k : ℕ) → a < length layout.arcs → k < long_at layout.arcs a
      → dart_at layout.arcs a k < darts is.faces
  arc_inside = search (rules, dart_low, laws, cut, nodes)

  -- The darts of all arcs, one after the other, differ, so there are no more than the mesh has.
  pub lengths_few : count_below (long_at layout.arcs) (length layout.arcs) ≤ darts is.faces
  lengths_few =
      let long = long_at layout.arcs in
      let run_of = λ (t : ℕ). run_at (count_below long) (length layout.arcs) t in
      let place_of = λ (t : ℕ). t - count_below long (run_of t) in
      no_more (count_below long (length layout.arcs)) (darts is.faces)
      (λ t. dart_at layout.arcs (run_of t) (place_of t)) (λ d. d) (λ i j li lj e.
      let one = run_here long (length layout.arcs) i li in
      let two = run_here long (length layout.arcs) j lj in
      let s = same_dart (half_edges is.faces) laws (is_on is.marks) cut (is_node is.faces is.marks) nodes layout.arcs
      is.laid.arcs (run_of i) (run_of j) (place_of i) (place_of j) one.low two.low one.inside two.inside e in
      omega (arith, one.place, two.place, ap (count_below long) s.0, s.1)) (λ i l.
      let here = run_here long (length layout.arcs) i l in
      (dart_at layout.arcs (run_of i) (place_of i), arc_inside (run_of i) (place_of i) here.low here.inside, refl))

  -- The first cells of patches differ, too.
  pub patches_few : length layout.patches ≤ darts is.faces
  patches_few = no_more _ _ first (λ d. d) (λ p q lp lq e. (is.laid.patches.once (first p) p 0 0 0 q 0 0 0 lp lq
      (side p p lp refl) (side q p lq e)).0) (λ p l. let g = (is.laid.patches.patch p l).grid in (
        first p,
        g.low 0 0 g.wide g.tall,
        refl,
      ))
    where
      first : (p : ℕ) → ℕ
      first p = cell_of (patch_at layout.patches p) 0 0

      side : (p q : ℕ) → p < length layout.patches → first q ≡ first p
          → IsSide (half_edges is.faces) (patch_at layout.patches p) 0 0 0 (first q)
      side p q l e = let g = (is.laid.patches.patch p l).grid in record { i_low = g.wide; j_low = g.tall; is = e }

-- So each arc is short.
pub runs_short : (t : TMesh) → IsSomeLayout (layout_of t)
    → All (λ (run : TArc). length run.darts.items < 2 ^ 32) t.arcs.items
runs_short t is k d l =
    let p = layout_of t in
    search (rules, get_or-map, length-map, term_low (long_at p.arcs) (length p.arcs) k, lengths_few p is)

pub few_patches : (t : TMesh) → IsSomeLayout (layout_of t) → length t.patches.items ≤ 2 ^ 23
few_patches t is = omega (arith, patches_few (layout_of t) is, length-map t.patches.items rectangle)
