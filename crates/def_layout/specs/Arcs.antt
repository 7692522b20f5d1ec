-- Arcs of a cut: straight runs of cut edges from node to node. A test tells which vertices are nodes.
use Rattle.std.specs.Prelude.{◌≡◌, ℕ, suc, ◌-◌, ◌<◌, Bool, true, false, List, [], length, slice_index, slice_index_or}
use Rattle.std.specs.Prelude.{Some}
use Rattle.def_mesh.specs.HalfEdges.{HalfEdges}
use Rattle.def_cut.specs.Cuts.{Cut}
use Rattle.def_cut.specs.Grids.{least_of}
use Rattle.def_cut.specs.Steps.{easts}
use Rattle.def_layout.specs.declared.tmesh.TArc.{TArc}

-- The vertex where dart d ends.
abbrev pub end_vertex : (mesh : HalfEdges) (d : ℕ) → ℕ
end_vertex mesh d = mesh.from (mesh.next d)

-- The n darts straight on from s are cut, and lead from a node to a node with no node between.
pub record IsRun (mesh : HalfEdges) (cut : Cut) (node : ℕ → Bool) (s n : ℕ) : Type 0 where
  pub some : 0 < n
  pub low : s < mesh.count
  pub begins : node (mesh.from s) ≡ true
  pub on : (k : ℕ) → k < n → cut (easts mesh s k) ≡ true
  pub inside : (k : ℕ) → suc k < n → node (end_vertex mesh (easts mesh s k)) ≡ false
  pub ends : (k : ℕ) → suc k ≡ n → node (end_vertex mesh (easts mesh s k)) ≡ true

-- An arc as contracts see it.
pub record Path : Type 0 where
  pub first : ℕ
  pub last : ℕ
  pub darts : List ℕ

abbrev pub path : (arc : TArc) → Path
path arc = record { first = arc.first; last = arc.last; darts = arc.darts.items }

abbrev pub path_at : (arcs : List Path) (arc : ℕ) → Path
path_at arcs arc = slice_index_or arcs arc (record { first = 0; last = 0; darts = [] })

-- The k-th dart of an arc.
abbrev pub dart_at : (arcs : List Path) (arc k : ℕ) → ℕ
dart_at arcs arc k = slice_index (path_at arcs arc).darts k

-- Its old length.
abbrev pub long_at : (arcs : List Path) (arc : ℕ) → ℕ
long_at arcs arc = length (path_at arcs arc).darts

-- Its name: the least of its darts.
abbrev pub name_at : (arcs : List Path) (arc : ℕ) → ℕ
name_at arcs arc = least_of (path_at arcs arc).darts

-- The darts of an arc. The least of them is less than each of their twins.
pub record IsArc (mesh : HalfEdges) (cut : Cut) (node : ℕ → Bool) (darts : List ℕ) : Type 0 where
  pub run : IsRun mesh cut node (slice_index darts 0) (length darts)
  pub each : (k : ℕ) → k < length darts → slice_index darts k ≡ easts mesh (slice_index darts 0) k
  pub named : (k t : ℕ) → k < length darts → mesh.twin (slice_index darts k) ≡ Some t → least_of darts < t

-- Dart d lies at a place of these darts, or of their twins the other way round.
abbrev pub LiesAt : (mesh : HalfEdges) (darts : List ℕ) (forward : Bool) (place d : ℕ) → Type 0
LiesAt mesh darts true place d = d ≡ slice_index darts place
LiesAt mesh darts false place d = mesh.twin (slice_index darts (length darts - 1 - place)) ≡ Some d

-- All arcs of a cut, in order of their names.
pub record AreArcs (mesh : HalfEdges) (cut : Cut) (node : ℕ → Bool) (arcs : List Path) : Type 0 where
  pub each : (a : ℕ) → a < length arcs → IsArc mesh cut node (path_at arcs a).darts
  pub ordered : (a : ℕ) → suc a < length arcs → name_at arcs a < name_at arcs (suc a)
  pub covers : (d : ℕ) → d < mesh.count → cut d ≡ true → (a : ℕ) × (place : ℕ) × (forward : Bool)
      × (a < length arcs) × (place < long_at arcs a) × LiesAt mesh (path_at arcs a).darts forward place d
