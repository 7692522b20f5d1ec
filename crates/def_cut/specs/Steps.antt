-- Steps over half edges: round a face, and straight on from face to face.
use Rattle.std.specs.Prelude.{ℕ, zero, suc, ◌/◌, Option, Some, None}
use Rattle.def_mesh.specs.HalfEdges.{HalfEdges}

-- The dart k steps on round the face of d.
abbrev pub spin : (mesh : HalfEdges) (k d : ℕ) → ℕ
spin mesh zero d = d
spin mesh (suc k) d = mesh.next (spin mesh k d)

-- The face of dart d.
abbrev pub face_of : (d : ℕ) → ℕ
face_of d = d / 4

-- A twin that is known to be there, or 0.
abbrev pub or_zero : (found : Option ℕ) → ℕ
or_zero None = 0
or_zero (Some d) = d

-- The dart straight on from d. It is the south dart of the cell to the east of the cell with south dart d.
abbrev pub step_east : (mesh : HalfEdges) (d : ℕ) → ℕ
step_east mesh d = mesh.next (or_zero (mesh.twin (mesh.next d)))

-- The south dart of the cell to the north of the cell with south dart d.
abbrev pub step_north : (mesh : HalfEdges) (d : ℕ) → ℕ
step_north mesh d = or_zero (mesh.twin (mesh.next (mesh.next d)))

-- The i-th dart straight on from d, and the j-th cell to the north.
abbrev pub easts : (mesh : HalfEdges) (d i : ℕ) → ℕ
easts mesh d zero = d
easts mesh d (suc i) = step_east mesh (easts mesh d i)

abbrev pub norths : (mesh : HalfEdges) (d j : ℕ) → ℕ
norths mesh d zero = d
norths mesh d (suc j) = step_north mesh (norths mesh d j)
