-- The nodes of a cut.
use Rattle.std.specs.Prelude.{◌≡◌, ◌<◌, true, false, Some, None, ℕ, ◌+◌, Bool, ◌&&◌, ◌||◌, not, nat_lt, is_some, List}
use Rattle.std.specs.Prelude.{filter, length}
use Rattle.def_mesh.specs.Faces.{Faces}
use Rattle.def_mesh.specs.Darts.{prev_of, twin_of}
use Rattle.def_mesh.specs.Vertices.{fan_of}
use Rattle.def_mesh.specs.Kinds.{is_regular}
use Rattle.def_mesh.specs.HalfEdges.{HalfEdges}
use Rattle.def_cut.specs.Cuts.{Cut, HasCross}
use Rattle.def_cut.specs.FullCut.{is_on}

-- Whether the dart before d is in the cut and has no twin.
abbrev pub is_lone_before : (faces : Faces) (marks : List Bool) (d : ℕ) → Bool
is_lone_before faces marks d = is_on marks (prev_of d) && not (is_some (twin_of faces (prev_of d)))

-- How many edges of the cut there are at v: each counts by the dart that leaves v, or else by the one that arrives.
abbrev pub cut_degree : (faces : Faces) (marks : List Bool) (v : ℕ) → ℕ
cut_degree faces marks v =
    length (filter (is_on marks) (fan_of faces v)) + length (filter (is_lone_before faces marks) (fan_of faces v))

-- A node is an irregular vertex, or one with at least three edges of the cut.
abbrev pub is_node : (faces : Faces) (marks : List Bool) (v : ℕ) → Bool
is_node faces marks v = not (is_regular faces v) || nat_lt 2 (cut_degree faces marks v)

-- What the laws of layouts need of nodes: other vertices of the cut lie on one straight line of it, inside or along the
-- boundary, and nothing ends or turns there.
pub record AreNodes (mesh : HalfEdges) (cut : Cut) (node : ℕ → Bool) : Type 0 where
  pub through : (d t : ℕ) → d < mesh.count → cut d ≡ true → mesh.twin d ≡ Some t → node (mesh.from d) ≡ false
      → HasCross mesh d
  pub along : (d : ℕ) → d < mesh.count → mesh.twin d ≡ None → node (mesh.from (mesh.next d)) ≡ false
      → (t : ℕ) × (mesh.twin (mesh.next d) ≡ Some t) × (mesh.twin (mesh.next t) ≡ None)
  pub corner : (d : ℕ) → d < mesh.count → cut d ≡ true → cut (mesh.prev d) ≡ true → node (mesh.from d) ≡ true
