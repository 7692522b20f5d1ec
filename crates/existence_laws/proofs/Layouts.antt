-- Each full cut of a mesh has exactly one layout.
use Rattle.std.proofs.Common.{◌/◌, Bool, List, length, map, refl, arith}
use Rattle.def_cut.specs.{FullCut.is_on, FullCut.IsFullCut, Grids.IsPartition, Grids.Rectangle, Traced.traced_marks}
use Rattle.def_layout.specs.{Arcs.Path, FaceLayouts.IsCutLayout, Nodes.is_node, Layouts.Layout}
use Rattle.def_mesh.specs.{Darts.darts, Faces.Faces, HalfEdges.half_edges, Meshes.IsMesh, Vertices.vertex_count}
use Rattle.def_remesh.specs.LayoutLaws.{HasOneLayout, LayoutLaw, TracedLayoutLaw}
use Rattle.qm_tmesh.specs.{Arcs.AreArcsBelow, Tables.IsMarked, Uses.HasUsesBelow}
use Rattle.qm_tmesh.proofs.Built.{have_patches, is_layout, to_marked}
use Rattle.existence_laws.proofs.Arcs.{arcs_exist, node_list, uses_exist, sides_exist}
use Rattle.{def_layout.specs.declared.tmesh.SideArc.SideArc, embedding_laws.proofs.OneLayout.one_layout_law}
use Rattle.{qm_tmesh.proofs.UseTables.to_named, existence_laws.proofs.Patches.patches_exist}
use Rattle.{std.specs.List.range_with_len, qm_grid.proofs.Laid.to_cutting, site_laws.proofs.Laws.graph_law}

module _ (faces : Faces) (marks : List Bool) (mesh : IsMesh faces) (full : IsFullCut faces marks) where
  abbrev nodes : List Bool
  nodes = map (is_node faces marks) (range_with_len 0 (vertex_count faces))

  marked : IsMarked faces marks nodes
  marked = to_marked mesh full refl

  with_sides : {ps : List Rectangle} (parts : IsPartition (half_edges faces) (is_on marks) (λ d. d / 4) ps)
      {arcs : List Path} (below : AreArcsBelow faces marks (node_list marked) (darts faces) arcs) {uses : List SideArc}
      → HasUsesBelow faces arcs (length arcs) uses → (layout : Layout) × IsCutLayout faces marks layout
  with_sides {ps} parts {arcs} below table =
      let (sides, all) = sides_exist (have_patches marked (omega arith) parts below table) in (
        record { nodes = node_list marked; arcs = arcs; patches = ps; sides = sides },
        is_layout marked (omega arith) parts below table all refl,
      )

  exists : (layout : Layout) × IsCutLayout faces marks layout
  exists =
      let ps = patches_exist (to_cutting faces marks mesh full) in
      let arcs = arcs_exist marked ps.1 in
      let uses = uses_exist marked (to_named marked arcs.1) in
      with_sides ps.1 arcs.1 uses.1

  one : HasOneLayout faces marks
  one = record {
    layout = exists.0;
    laid = exists.1;
    alone = λ other also. one_layout_law faces marks mesh.manifold full other exists.0 also exists.1;
  }

pub layout_law : LayoutLaw
layout_law = one

pub traced_layout_law : TracedLayoutLaw
traced_layout_law faces mesh = one faces (traced_marks faces) mesh (graph_law faces mesh.manifold).1
