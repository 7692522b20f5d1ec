-- Meshes with a full cut.
use Rattle.std.specs.Prelude.{◌≡◌, ◌≤◌, Bool, List, length}
use Rattle.def_mesh.specs.declared.TheConstants.{MAX_FACES}
use Rattle.def_mesh.specs.Faces.{Faces}
use Rattle.def_mesh.specs.Darts.{darts}
use Rattle.def_mesh.specs.HalfEdges.{half_edges, IsQuadManifold}
use Rattle.def_cut.specs.Cuts.{IsCut}
use Rattle.def_cut.specs.FullCut.{is_on}

-- The faces are a manifold of quads, not too many, and the marks, one for each dart, are a full cut of it.
pub record IsCutting (faces : Faces) (cut : List Bool) : Type 0 where
  pub few : length faces ≤ MAX_FACES
  pub long : length cut ≡ darts faces
  pub laws : IsQuadManifold (half_edges faces)
  pub full : IsCut (half_edges faces) (is_on cut)

-- Faces with a mark for each dart.
pub record CutFaces : Type 0 where
  pub faces : Faces
  pub marks : List Bool
