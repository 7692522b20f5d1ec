-- What is proved of the layout of a mesh and a full cut.
use Rattle.std.specs.Prelude.{◌≡◌, Bool, List}
use Rattle.def_mesh.specs.Faces.{Faces}
use Rattle.def_mesh.specs.Manifold.{IsManifold}
use Rattle.def_mesh.specs.Meshes.{IsMesh}
use Rattle.def_cut.specs.FullCut.{IsFullCut}
use Rattle.def_layout.specs.Arcs.{long_at}
use Rattle.def_layout.specs.FaceLayouts.{IsCutLayout}
use Rattle.def_layout.specs.Layouts.{Layout, gluing_of, vertex_at}
use Rattle.def_written.specs.Laws.{AreQuads, LiesInMesh}

-- The layout of a full cut lies in the mesh, with the lengths of its arcs there.
abbrev pub EmbeddingLaw : Type 0
EmbeddingLaw = (faces : Faces) (marks : List Bool) (layout : Layout) → IsMesh faces → AreQuads faces
    → IsFullCut faces marks
    → IsCutLayout faces marks layout → LiesInMesh faces (gluing_of layout) (long_at layout.arcs) (vertex_at layout)

-- A manifold and a full cut of it have at most one layout.
abbrev pub OneLayoutLaw : Type 0
OneLayoutLaw = (faces : Faces) (marks : List Bool) → IsManifold faces → IsFullCut faces marks
    → (one other : Layout) → IsCutLayout faces marks one → IsCutLayout faces marks other → one ≡ other
