-- The darts of a run as a list, and the runs that name arcs.
use Rattle.std.specs.Prelude.{◌≡◌, ℕ, ◌<◌, Bool, List, map, Some}
use Rattle.std.specs.List.{range_with_len}
use Rattle.def_mesh.specs.HalfEdges.{HalfEdges}
use Rattle.def_cut.specs.Cuts.{Cut}
use Rattle.def_cut.specs.Grids.{least_of}
use Rattle.def_cut.specs.Steps.{easts}
use Rattle.def_layout.specs.Arcs.{IsRun}

-- The darts of a run of n darts from s.
abbrev pub run_list : (mesh : HalfEdges) (s n : ℕ) → List ℕ
run_list mesh s n = map (easts mesh s) (range_with_len 0 n)

-- The least of them.
abbrev pub run_name : (mesh : HalfEdges) (s n : ℕ) → ℕ
run_name mesh s n = least_of (run_list mesh s n)

-- The run gives its arc its name and its direction.
pub record IsNamed (mesh : HalfEdges) (cut : Cut) (node : ℕ → Bool) (s n : ℕ) : Type 0 where
  pub run : IsRun mesh cut node s n
  pub named : (k t : ℕ) → k < n → mesh.twin (easts mesh s k) ≡ Some t → run_name mesh s n < t
