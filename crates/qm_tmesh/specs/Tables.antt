-- The tables of a layout, as the loops have them.
use Rattle.std.specs.Prelude.{◌≡◌, ◌≢◌, ℕ, ◌<◌, ◌≤◌, true, Bool, List, length, slice_index}
use Rattle.def_mesh.specs.declared.TheConstants.{MAX_FACES}
use Rattle.def_mesh.specs.Faces.{Faces}
use Rattle.def_mesh.specs.Darts.{darts}
use Rattle.def_mesh.specs.Vertices.{vertex_count}
use Rattle.def_mesh.specs.HalfEdges.{half_edges, IsQuadManifold}
use Rattle.def_cut.specs.Cuts.{IsCut}
use Rattle.def_cut.specs.FullCut.{is_on}
use Rattle.def_layout.specs.Nodes.{is_node, AreNodes}
use Rattle.layout_laws.specs.Named.{run_name, IsNamed}

-- Each marked vertex has its place in the list of the marked ones.
abbrev pub ArePlaces : (marks : List Bool) (list places : List ℕ) → Type 0
ArePlaces marks list places =
    (length places ≡ length marks)
    × ((v : ℕ) → v < length marks → is_on marks v ≡ true
    → (slice_index places v < length list) × (slice_index list (slice_index places v) ≡ v))

-- A mesh with a full cut, its nodes and its patches.
pub record IsMarked (faces : Faces) (cut nodes : List Bool) : Type 0 where
  pub few : length faces ≤ MAX_FACES
  pub long : length cut ≡ darts faces
  pub laws : IsQuadManifold (half_edges faces)
  pub full : IsCut (half_edges faces) (is_on cut)
  pub stand : AreNodes (half_edges faces) (is_on cut) (is_node faces cut)
  pub many : length nodes ≡ vertex_count faces
  pub told : (v : ℕ) → v < vertex_count faces → is_on nodes v ≡ is_node faces cut v

-- A run of the cut that names its arc.
abbrev pub IsNamedRun : (faces : Faces) (cut : List Bool) (s n : ℕ) → Type 0
IsNamedRun faces cut s n = IsNamed (half_edges faces) (is_on cut) (is_node faces cut) s n

-- The table has the first dart of each run that names an arc, by its name; all other entries are the number of darts.
pub record AreStarts (faces : Faces) (cut : List Bool) (d : ℕ) (starts : List ℕ) : Type 0 where
  pub long : length starts ≡ length cut
  pub right : (m : ℕ) → m < length starts → slice_index starts m ≢ length cut
      → (n : ℕ) × IsNamedRun faces cut (slice_index starts m) n
      × (run_name (half_edges faces) (slice_index starts m) n ≡ m)
  pub first : (s n : ℕ) → s < d → IsNamedRun faces cut s n → slice_index starts (run_name (half_edges faces) s n) ≡ s
