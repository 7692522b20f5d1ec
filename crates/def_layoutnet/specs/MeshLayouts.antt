-- Layouts of some mesh.
use Rattle.std.specs.Prelude.{Bool, List}
use Rattle.def_mesh.specs.Faces.{Faces}
use Rattle.def_mesh.specs.Meshes.{IsMesh}
use Rattle.def_cut.specs.FullCut.{IsFullCut}
use Rattle.def_layout.specs.FaceLayouts.{IsCutLayout}
use Rattle.def_layout.specs.Layouts.{Layout}
use Rattle.def_written.specs.Laws.{AreQuads}

-- The layout of some mesh of quads and some full cut of it.
pub record IsSomeLayout (layout : Layout) : Type 0 where
  pub faces : Faces
  pub mesh : IsMesh faces
  pub quads : AreQuads faces
  pub marks : List Bool
  pub cut : IsFullCut faces marks
  pub laid : IsCutLayout faces marks layout
