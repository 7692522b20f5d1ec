-- The four sides of patches, as the loops have them.
use Rattle.std.specs.Prelude.{◌≡◌, ℕ, ◌*◌, ◌<◌, Bool, List, [], length, map, slice_index_or}
use Rattle.def_mesh.specs.Faces.{Faces}
use Rattle.def_mesh.specs.HalfEdges.{half_edges, IsQuadManifold}
use Rattle.def_cut.specs.Cuts.{IsCut}
use Rattle.def_cut.specs.FullCut.{is_on}
use Rattle.def_cut.specs.Grids.{Rectangle, cell_of, patch_at, IsPatch}
use Rattle.def_layout.specs.Arcs.{Path}
use Rattle.def_layout.specs.Borders.{side_size, border_dart}
use Rattle.def_layout.specs.Gluings.{Way}
use Rattle.def_layout.specs.Nodes.{is_node, AreNodes}
use Rattle.def_layout.specs.Layouts.{way_number, PatchSides}
use Rattle.def_layout.specs.declared.tmesh.Side.{Side}
use Rattle.def_layout.specs.declared.tmesh.SideArc.{SideArc}
use Rattle.layout_laws.specs.Named.{run_list}
use Rattle.qm_tmesh.specs.Sides.{IsSideOf}
use Rattle.qm_tmesh.specs.Uses.{AreNamed, HasUses}
use Rattle.def_mesh.specs.Darts.{darts}

-- The arcs and uses of some full cut.
pub record AreRuns (faces : Faces) (arcs : List Path) (uses : List SideArc) : Type 0 where
  pub cut : List Bool
  pub laws : IsQuadManifold (half_edges faces)
  pub full : IsCut (half_edges faces) (is_on cut)
  pub stand : AreNodes (half_edges faces) (is_on cut) (is_node faces cut)
  pub named : AreNamed faces cut arcs
  pub long : length uses ≡ darts faces
  pub begin : HasUses faces cut arcs uses

-- A patch of that cut.
pub record IsPatchOf (faces : Faces) (cut : List Bool) (patch : Rectangle) : Type 0 where
  pub placed : IsPatch (half_edges faces) (is_on cut) patch.w patch.h (cell_of patch)
  pub sized : length patch.cells ≡ patch.h * patch.w

-- A side of a patch of that cut begins with this dart, and has so many.
abbrev pub HasSide : (faces : Faces) (arcs : List Path) (uses : List SideArc) (first size : ℕ) → Type 0
HasSide faces arcs uses first size =
    (runs : AreRuns faces arcs uses) × (patch : Rectangle) × IsPatchOf faces runs.cut patch
    × (way : Way) × (first ≡ border_dart (half_edges faces) patch way 0) × (size ≡ side_size patch way)

-- The four sides of a patch.
pub record AreFour
    (faces : Faces) (arcs : List Path) (uses : List SideArc) (patch : Rectangle) (four : List (List SideArc))
    : Type 0 where
  pub count : length four ≡ 4
  pub each : (way : Way)
      → IsSideOf arcs uses
      (run_list (half_edges faces) (border_dart (half_edges faces) patch way 0) (side_size patch way))
      (slice_index_or four (way_number way) [])

abbrev pub HasPatch : (faces : Faces) (arcs : List Path) (uses : List SideArc) (patch : Rectangle) → Type 0
HasPatch faces arcs uses patch = (runs : AreRuns faces arcs uses) × IsPatchOf faces runs.cut patch

-- All of them.
abbrev pub HavePatches : (faces : Faces) (arcs : List Path) (uses : List SideArc) (patches : List Rectangle) → Type 0
HavePatches faces arcs uses patches = (runs : AreRuns faces arcs uses)
    × ((p : ℕ) → p < length patches → IsPatchOf faces runs.cut (patch_at patches p))

-- Four sides as contracts see them.
abbrev pub four_of : (four : List Side) → List (List SideArc)
four_of four = map (λ (side : Side). side.arcs.items) four

-- The sides of all patches.
pub record AreAllFour
    (faces : Faces) (arcs : List Path) (uses : List SideArc) (patches : List Rectangle)
    (sides : PatchSides)
    : Type 0 where
  pub count : length sides ≡ length patches
  pub each : (p : ℕ) → p < length patches → AreFour faces arcs uses (patch_at patches p) (slice_index_or sides p [])
