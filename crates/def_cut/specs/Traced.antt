-- The traced graph: the first state where nobody runs, over half edges and over a list of faces.
use Rattle.std.specs.Prelude.{◌≡◌, ℕ, zero, suc, Bool, not, ◌||◌, List, [], ◌∷◌, map, Some, is_some}
use Rattle.def_mesh.specs.Faces.{Faces}
use Rattle.def_mesh.specs.Darts.{all_darts}
use Rattle.def_mesh.specs.Vertices.{vertex_count}
use Rattle.def_mesh.specs.Kinds.{is_inner, is_singular}
use Rattle.def_mesh.specs.Components.{start_darts}
use Rattle.def_mesh.specs.HalfEdges.{half_edges}
use Rattle.def_cut.specs.Motion.{Terrain, State, ridden, step, start}
use Rattle.def_cut.specs.declared.graph.Graph.{Graph}
use Rattle.def_cut.specs.declared.graph.Rider.{Rider}
use Rattle.def_cut.specs.declared.moving.Moving.{Moving}

-- On from a state until nobody runs, at most so many steps.
abbrev pub finish : (g : Terrain) (steps : ℕ) (s : State) → State
finish g zero s = s
finish g (suc n) s = elim (ridden s.riders) as (λ ds. State) [ [] ↦ s | d ∷ ds ↦ finish g n (step g s) ]

-- The first state where nobody runs. Each step leaves a rider at a vertex where none has stood, or is the last.
abbrev pub end_state : (g : Terrain) (vertices : ℕ) (starts : List ℕ) → State
end_state g n starts = finish g (suc n) (start g starts)

-- An edge is in the graph where it is covered or at the boundary.
abbrev pub is_cut : (g : Terrain) (s : State) (d : ℕ) → Bool
is_cut g s d = s.covered d || not (is_some (g.half.twin d))

-- Where riders move on a mesh.
abbrev pub terrain_of : (faces : Faces) → Terrain
terrain_of faces = record {
  half = half_edges faces;
  boundary = λ v. not (is_inner faces v);
  singular = is_singular faces;
}

-- The last state of the motion on a mesh.
abbrev pub last_state : (faces : Faces) → State
last_state faces = end_state (terrain_of faces) (vertex_count faces) (start_darts faces)

-- Whether the edge of d is in the graph of a mesh.
abbrev pub is_traced : (faces : Faces) (d : ℕ) → Bool
is_traced faces d = is_cut (terrain_of faces) (last_state faces) d

-- The marks of the graph, one for each dart.
abbrev pub traced_marks : (faces : Faces) → List Bool
traced_marks faces = map (is_traced faces) (all_darts faces)

-- A rider of the graph, with its first dart, says what became of one in motion.
pub record IsRiderOf (moving : Moving) (first : ℕ) (rider : Rider) : Type 0 where
  pub start : rider.start ≡ first
  pub rides : rider.rides ≡ moving.rides
  pub stop : moving.stop ≡ Some rider.stop

-- The riders of the graph, in order.
abbrev pub AreRiders : (movings : List Moving) (firsts : List ℕ) (riders : List Rider) → Type 0
AreRiders [] [] [] = Unit {0}
AreRiders (m ∷ ms) (d ∷ ds) (r ∷ rs) = IsRiderOf m d r × AreRiders ms ds rs
AreRiders ms ds rs = ⊥

-- The traced graph of a mesh: a mark for each dart, and its riders in order.
pub record IsGraphOf (faces : Faces) (graph : Graph) : Type 0 where
  pub covered : graph.covered.items ≡ traced_marks faces
  pub riders : AreRiders (last_state faces).riders (start_darts faces) graph.riders.items
