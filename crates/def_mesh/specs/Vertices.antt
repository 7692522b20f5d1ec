-- The vertices of a list of faces, and the corners at each.
use Rattle.std.specs.Prelude.{ℕ, ◌+◌, ◌<◌, Bool, max, ◌==◌, nat_lt, IsTrue, List, [], ◌∷◌, map, filter, length}
use Rattle.std.specs.List.{list_all, list_any, range_with_len}
use Rattle.def_mesh.specs.Faces.{Faces}
use Rattle.def_mesh.specs.Darts.{all_darts, from_of}

-- The fan of v: the darts that leave it, increasing, one for each corner there.
abbrev pub fan_of : (faces : Faces) (v : ℕ) → List ℕ
fan_of faces v = filter (λ d. from_of faces d == v) (all_darts faces)

-- How many faces there are at v: no face of a manifold has two corners there.
abbrev pub faces_at : (faces : Faces) (v : ℕ) → ℕ
faces_at faces v = length (fan_of faces v)

-- One more than the greatest number of a list.
abbrev pub above_all : (numbers : List ℕ) → ℕ
above_all [] = 0
above_all (x ∷ xs) = max (x + 1) (above_all xs)

-- How many vertices there are, where each below the greatest is used.
abbrev pub vertex_count : (faces : Faces) → ℕ
vertex_count faces = above_all (map (from_of faces) (all_darts faces))

-- All vertices, increasing.
abbrev pub all_vertices : (faces : Faces) → List ℕ
all_vertices faces = range_with_len 0 (vertex_count faces)

-- Whether each corner is a vertex below n.
abbrev pub names_below : (n : ℕ) (faces : Faces) → Bool
names_below n faces = list_all (λ face. list_all (λ v. nat_lt v n) face) faces

-- Whether v is a corner of some face.
abbrev pub is_used : (faces : Faces) (v : ℕ) → Bool
is_used faces v = list_any (λ face. list_any (λ u. u == v) face) faces

-- Each vertex below n is used.
abbrev pub UsesEach : (n : ℕ) (faces : Faces) → Type 0
UsesEach n faces = (v : ℕ) → v < n → IsTrue (is_used faces v)
