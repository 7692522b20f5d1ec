-- The cells of rows and grids as lists.
use Rattle.std.specs.Prelude.{ℕ, zero, suc, List, [], ◌++◌, map}
use Rattle.std.specs.List.{range_with_len}
use Rattle.def_mesh.specs.HalfEdges.{HalfEdges}
use Rattle.def_cut.specs.Steps.{easts, norths}

-- w cells, from s to the east.
abbrev pub row_list : (mesh : HalfEdges) (s w : ℕ) → List ℕ
row_list mesh s w = map (easts mesh s) (range_with_len 0 w)

-- h rows of w cells, from d to the north.
abbrev pub grid_list : (mesh : HalfEdges) (d w h : ℕ) → List ℕ
grid_list mesh d w zero = []
grid_list mesh d w (suc h) = grid_list mesh d w h ++ row_list mesh (norths mesh d h) w
