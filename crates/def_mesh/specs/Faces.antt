-- Lists of faces, on which all definitions of a mesh stand.
use Rattle.std.specs.Prelude.{ℕ, List, [], length, slice_index_or}
use Rattle.std.specs.List.{range_with_len}

-- A face has the vertices at its corners, in order round it. A quad has four.
abbrev pub Face : Type 0
Face = List ℕ

-- The faces of a mesh are numbered from 0, and so are its vertices.
abbrev pub Faces : Type 0
Faces = List Face

-- The face with number f.
abbrev pub face_at : (faces : Faces) (f : ℕ) → Face
face_at faces f = slice_index_or faces f []

-- The vertex at corner i of face f.
abbrev pub corner : (faces : Faces) (f i : ℕ) → ℕ
corner faces f i = slice_index_or (face_at faces f) i 0

-- All faces by number, increasing.
abbrev pub all_faces : (faces : Faces) → List ℕ
all_faces faces = range_with_len 0 (length faces)
