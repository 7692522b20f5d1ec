-- The laws of what is remeshed: it has exactly one layout.
use Rattle.std.specs.Prelude.{◌≡◌, Bool, List}
use Rattle.def_cut.specs.FullCut.{IsFullCut}
use Rattle.def_cut.specs.Traced.{traced_marks}
use Rattle.def_layout.specs.FaceLayouts.{IsCutLayout}
use Rattle.def_layout.specs.Layouts.{Layout}
use Rattle.def_mesh.specs.Faces.{Faces}
use Rattle.def_mesh.specs.Meshes.{IsMesh}

-- There is a layout of these faces and this cut, and no other.
pub record HasOneLayout (faces : Faces) (marks : List Bool) : Type 0 where
  pub layout : Layout
  pub laid : IsCutLayout faces marks layout
  pub alone : (other : Layout) → IsCutLayout faces marks other → other ≡ layout

-- Each full cut of a mesh has exactly one layout.
abbrev pub LayoutLaw : Type 0
LayoutLaw = (faces : Faces) (marks : List Bool) → IsMesh faces → IsFullCut faces marks → HasOneLayout faces marks

-- So has the motorcycle graph of each mesh.
abbrev pub TracedLayoutLaw : Type 0
TracedLayoutLaw = (faces : Faces) → IsMesh faces → HasOneLayout faces (traced_marks faces)
