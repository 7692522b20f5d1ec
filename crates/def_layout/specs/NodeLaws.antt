-- The law of nodes.
use Rattle.std.specs.Prelude.{Bool, List}
use Rattle.def_mesh.specs.Faces.{Faces}
use Rattle.def_mesh.specs.Manifold.{IsManifold}
use Rattle.def_mesh.specs.HalfEdges.{half_edges}
use Rattle.def_cut.specs.FullCut.{is_on, IsFullCut}
use Rattle.def_layout.specs.Nodes.{is_node, AreNodes}

-- At a vertex of a full cut that is no node the cut goes straight on.
abbrev pub NodesLaw : Type 0
NodesLaw = (faces : Faces) (marks : List Bool) → IsManifold faces → IsFullCut faces marks
    → AreNodes (half_edges faces) (is_on marks) (is_node faces marks)
