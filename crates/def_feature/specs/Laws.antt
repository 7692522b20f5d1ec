-- The laws of the motion that keeps marked edges.
use Rattle.std.specs.Prelude.{◌≡◌, ℕ, ◌<◌, Bool, true, List, []}
use Rattle.def_mesh.specs.Faces.{Faces}
use Rattle.def_mesh.specs.Darts.{darts}
use Rattle.def_mesh.specs.HalfEdges.{half_edges}
use Rattle.def_mesh.specs.Manifold.{IsManifold}
use Rattle.def_cut.specs.FullCut.{is_on, IsFullCut}
use Rattle.def_cut.specs.Motion.{ridden}
use Rattle.def_cut.specs.Steps.{easts}
use Rattle.def_layout.specs.Arcs.{IsRun}
use Rattle.def_layout.specs.Nodes.{is_node}
use Rattle.def_feature.specs.Marks.{AreMarks}
use Rattle.def_feature.specs.Marked.{marked_last, marked_cut}

-- The motion comes to an end, its graph is a full cut, and that cut has every marked edge.
pub record KeepsMarks (faces : Faces) (marks : List Bool) : Type 0 where
  pub rests : ridden (marked_last faces marks).riders ≡ []
  pub full : IsFullCut faces (marked_cut faces marks)
  pub kept : (d : ℕ) → d < darts faces → is_on marks d ≡ true → is_on (marked_cut faces marks) d ≡ true

abbrev pub MarkedLaw : Type 0
MarkedLaw = (faces : Faces) (marks : List Bool) → IsManifold faces → AreMarks faces marks → KeepsMarks faces marks

-- Each arc of that cut is marked in all its edges or in none.
abbrev pub MarkedArcLaw : Type 0
MarkedArcLaw = (faces : Faces) (marks : List Bool) → IsManifold faces → AreMarks faces marks → (s n : ℕ)
    → IsRun (half_edges faces) (is_on (marked_cut faces marks)) (is_node faces (marked_cut faces marks)) s n
    → (k : ℕ) → k < n → is_on marks (easts (half_edges faces) s k) ≡ is_on marks s
