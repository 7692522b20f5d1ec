-- The motion that keeps marked edges: they are covered from the first, and riders start also where they break.
use Rattle.std.specs.Prelude.{◌≡◌, ℕ, suc, Bool, not, ◌&&◌, ◌||◌, ◌==◌, List, map, filter, is_some}
use Rattle.std.specs.List.{list_any}
use Rattle.def_mesh.specs.Faces.{Faces}
use Rattle.def_mesh.specs.Darts.{all_darts, from_of, twin_of}
use Rattle.def_mesh.specs.Vertices.{vertex_count}
use Rattle.def_mesh.specs.Kinds.{is_end}
use Rattle.def_mesh.specs.Components.{seeds, is_start}
use Rattle.def_cut.specs.FullCut.{is_on}
use Rattle.def_cut.specs.Motion.{State, begun}
use Rattle.def_cut.specs.Traced.{terrain_of, finish, is_cut, AreRiders}
use Rattle.def_cut.specs.declared.graph.Graph.{Graph}
use Rattle.def_feature.specs.Marks.{is_break}

-- Where lines of the graph begin: the darts along which riders start without marks, and those with a twin that leave a
-- break.
abbrev pub is_origin : (faces : Faces) (marks : List Bool) (d : ℕ) → Bool
is_origin faces marks d = is_start faces (seeds faces) d
    || (is_some (twin_of faces d) && is_break faces marks (from_of faces d))

-- The darts along which riders start, increasing: none of a marked edge.
abbrev pub marked_starts : (faces : Faces) (marks : List Bool) → List ℕ
marked_starts faces marks = filter (λ d. is_origin faces marks d && not (is_on marks d)) (all_darts faces)

-- The first state: marked edges are covered, and riders have stood at their ends and where they start.
abbrev pub marked_first : (faces : Faces) (marks : List Bool) → State
marked_first faces marks = record {
  riders = map begun (marked_starts faces marks);
  stood = λ v. list_any (λ d. from_of faces d == v) (marked_starts faces marks)
      || list_any (λ d. is_on marks d && is_end faces v d) (all_darts faces);
  covered = is_on marks;
}

-- The first state where nobody runs.
abbrev pub marked_last : (faces : Faces) (marks : List Bool) → State
marked_last faces marks = finish (terrain_of faces) (suc (vertex_count faces)) (marked_first faces marks)

-- The marks of the graph, one for each dart.
abbrev pub marked_cut : (faces : Faces) (marks : List Bool) → List Bool
marked_cut faces marks = map (λ d. is_cut (terrain_of faces) (marked_last faces marks) d) (all_darts faces)

-- The graph that is traced beside marks: a mark for each dart, and its riders in order.
pub record IsMarkedGraph (faces : Faces) (marks : List Bool) (graph : Graph) : Type 0 where
  pub covered : graph.covered.items ≡ marked_cut faces marks
  pub riders : AreRiders (marked_last faces marks).riders (marked_starts faces marks) graph.riders.items
