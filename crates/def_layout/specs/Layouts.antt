-- The layout of a mesh and a cut.
use Rattle.std.specs.Prelude.{◌≡◌, ℕ, suc, ◌+◌, ◌<◌, Bool, List, [], filter, map, length, slice_index, slice_index_or}
use Rattle.std.specs.Prelude.{true}
use Rattle.std.specs.List.{range_with_len}
use Rattle.def_mesh.specs.HalfEdges.{HalfEdges}
use Rattle.def_cut.specs.Cuts.{Cut}
use Rattle.def_cut.specs.Grids.{Rectangle, rectangle, patch_at, IsPartition}
use Rattle.def_layout.specs.Arcs.{end_vertex, Path, path, path_at, dart_at, long_at, LiesAt, AreArcs}
use Rattle.def_layout.specs.Borders.{side_size, border_dart}
use Rattle.def_layout.specs.Gluings.{Way, south, east, north, west, Gluing, Slot, IsSlot, use_of}
use Rattle.def_layout.specs.Lengths.{reach, size}
use Rattle.def_layout.specs.declared.tmesh.Side.{Side}
use Rattle.def_layout.specs.declared.tmesh.SideArc.{SideArc}
use Rattle.def_layout.specs.declared.tmesh.TMesh.{TMesh}

-- The arcs along each of the four sides of each patch.
abbrev pub PatchSides : Type 0
PatchSides = List (List (List SideArc))

-- A layout of a mesh as contracts see it.
pub record Layout : Type 0 where
  pub nodes : List ℕ
  pub arcs : List Path
  pub patches : List Rectangle
  pub sides : PatchSides

-- The layout that the code's tables hold.
abbrev pub layout_of : (tmesh : TMesh) → Layout
layout_of tmesh = record {
  nodes = tmesh.nodes.items;
  arcs = map path tmesh.arcs.items;
  patches = map rectangle tmesh.patches.items;
  sides = map (λ four. map (λ (side : Side). side.arcs.items) four) tmesh.sides.items;
}

-- The place of a side among the four.
abbrev pub way_number : (side : Way) → ℕ
way_number south = 0
way_number east = 1
way_number north = 2
way_number west = 3

-- The arcs of a side of a patch.
abbrev pub side_at : (layout : Layout) (patch : ℕ) (side : Way) → List SideArc
side_at layout patch side = slice_index_or (slice_index_or layout.sides patch []) (way_number side) []

-- The vertex of a node.
abbrev pub vertex_at : (layout : Layout) (node : ℕ) → ℕ
vertex_at layout node = slice_index layout.nodes node

-- What is left when the mesh is forgotten.
abbrev pub gluing_of : (layout : Layout) → Gluing
gluing_of layout = record {
  nodes = length layout.nodes;
  arcs = length layout.arcs;
  patches = length layout.patches;
  first = λ arc. (path_at layout.arcs arc).first;
  last = λ arc. (path_at layout.arcs arc).last;
  many = λ patch side. length (side_at layout patch side);
  use_at = λ patch side at. slice_index_or (side_at layout patch side) at (record { arc = 0; forward = true });
}

-- The layout of a cut mesh with these nodes among its first `vertices` vertices. Dart d lies in face `face_of d`.
pub record IsDartLayout
    (mesh : HalfEdges) (cut : Cut) (node : ℕ → Bool) (face_of : ℕ → ℕ) (vertices : ℕ) (layout : Layout) : Type 0 where
  pub patches : IsPartition mesh cut face_of layout.patches
  pub nodes : layout.nodes ≡ filter node (range_with_len 0 vertices)
  pub arcs : AreArcs mesh cut node layout.arcs
  -- An arc runs from its first node to its last one.
  pub first_low : (arc : ℕ) → arc < length layout.arcs → (path_at layout.arcs arc).first < length layout.nodes
  pub last_low : (arc : ℕ) → arc < length layout.arcs → (path_at layout.arcs arc).last < length layout.nodes
  pub first_at : (arc : ℕ) → arc < length layout.arcs
      → vertex_at layout (path_at layout.arcs arc).first ≡ mesh.from (dart_at layout.arcs arc 0)
  pub last_at : (arc k : ℕ) → arc < length layout.arcs → suc k ≡ long_at layout.arcs arc
      → vertex_at layout (path_at layout.arcs arc).last ≡ end_vertex mesh (dart_at layout.arcs arc k)
  -- Each patch has four sides, whose arcs make up its border, one after the other.
  pub sided : length layout.sides ≡ length layout.patches
  pub four : (patch : ℕ) → patch < length layout.patches → length (slice_index_or layout.sides patch []) ≡ 4
  pub sizes : (patch : ℕ) (side : Way) → patch < length layout.patches
      → size (gluing_of layout) (long_at layout.arcs) patch side ≡ side_size (patch_at layout.patches patch) side
  pub uses : (slot : Slot) → IsSlot (gluing_of layout) slot → (use_of (gluing_of layout) slot).arc < length layout.arcs
  pub used : (slot : Slot) (offset : ℕ) → IsSlot (gluing_of layout) slot
      → offset < long_at layout.arcs (use_of (gluing_of layout) slot).arc
      → LiesAt mesh (path_at layout.arcs (use_of (gluing_of layout) slot).arc).darts
      (use_of (gluing_of layout) slot).forward offset
      (border_dart mesh (patch_at layout.patches slot.patch) slot.side
      (reach (gluing_of layout) (long_at layout.arcs) slot.patch slot.side slot.at + offset))
