-- The list of arcs as it grows.
use Rattle.std.specs.Prelude.{◌≡◌, ℕ, suc, ◌<◌, Bool, List, length, slice_index}
use Rattle.def_mesh.specs.Faces.{Faces}
use Rattle.def_mesh.specs.Darts.{from_of, to_of}
use Rattle.def_mesh.specs.HalfEdges.{half_edges}
use Rattle.def_cut.specs.FullCut.{is_on}
use Rattle.def_cut.specs.Steps.{easts}
use Rattle.def_layout.specs.Arcs.{IsRun, Path, path_at, long_at, name_at}
use Rattle.def_layout.specs.Nodes.{is_node}
use Rattle.layout_laws.specs.Named.{run_list, run_name}
use Rattle.qm_tmesh.specs.Tables.{IsNamedRun}

-- The path is the run that begins with s, and tells the places of its ends in the list of nodes.
pub record IsArcFrom (faces : Faces) (cut : List Bool) (nodes : List ℕ) (s : ℕ) (path : Path) : Type 0 where
  pub run : IsRun (half_edges faces) (is_on cut) (is_node faces cut) s (length path.darts)
  pub darts : path.darts ≡ run_list (half_edges faces) s (length path.darts)
  pub first_low : path.first < length nodes
  pub last_low : path.last < length nodes
  pub first_at : slice_index nodes path.first ≡ from_of faces s
  pub last_at : (k : ℕ) → suc k ≡ length path.darts
      → slice_index nodes path.last ≡ to_of faces (easts (half_edges faces) s k)

-- These are the arcs whose names are below m, in order of their names.
pub record AreArcsBelow (faces : Faces) (cut : List Bool) (nodes : List ℕ) (m : ℕ) (arcs : List Path) : Type 0 where
  pub each : (a : ℕ) → a < length arcs
      → (s : ℕ) × IsNamedRun faces cut s (long_at arcs a) × IsArcFrom faces cut nodes s (path_at arcs a)
  pub ordered : (a : ℕ) → suc a < length arcs → name_at arcs a < name_at arcs (suc a)
  pub below : (a : ℕ) → a < length arcs → name_at arcs a < m
  pub all : (s n : ℕ) → IsNamedRun faces cut s n → run_name (half_edges faces) s n < m
      → (a : ℕ) × (a < length arcs) × ((path_at arcs a).darts ≡ run_list (half_edges faces) s n)
