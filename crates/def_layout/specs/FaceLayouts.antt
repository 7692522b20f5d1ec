-- Layouts of a list of faces and a cut of it.
use Rattle.std.specs.Prelude.{Bool, List}
use Rattle.def_mesh.specs.Faces.{Faces}
use Rattle.def_mesh.specs.HalfEdges.{half_edges}
use Rattle.def_mesh.specs.Vertices.{vertex_count}
use Rattle.def_cut.specs.FullCut.{is_on}
use Rattle.def_cut.specs.Steps.{face_of}
use Rattle.def_layout.specs.Nodes.{is_node}
use Rattle.def_layout.specs.Layouts.{Layout, IsDartLayout}

-- The layout of these faces, cut along the marked edges.
abbrev pub IsCutLayout : (faces : Faces) (marks : List Bool) (layout : Layout) → Type 0
IsCutLayout faces marks layout =
    IsDartLayout (half_edges faces) (is_on marks) (is_node faces marks) face_of (vertex_count faces) layout
