-- Full cuts that keep marked edges.
use Rattle.std.specs.Prelude.{◌≡◌, ℕ, suc, ◌<◌, Bool, true, not, ◌&&◌, ◌||◌, List}
use Rattle.std.specs.List.{list_all, list_any}
use Rattle.def_mesh.specs.Faces.{Faces}
use Rattle.def_mesh.specs.Darts.{darts, all_darts, from_of, prev_of}
use Rattle.def_mesh.specs.HalfEdges.{half_edges}
use Rattle.def_mesh.specs.Manifold.{IsManifold}
use Rattle.def_mesh.specs.Vertices.{fan_of}
use Rattle.def_cut.specs.FullCut.{is_on, IsFullCut}
use Rattle.def_cut.specs.Steps.{easts}
use Rattle.def_layout.specs.Arcs.{IsRun}
use Rattle.def_layout.specs.Nodes.{is_node}
use Rattle.def_feature.specs.Marks.{AreMarks, is_break}

-- Some patch has a corner at v.
abbrev pub is_turn : (faces : Faces) (cut : List Bool) (v : ℕ) → Bool
is_turn faces cut v = list_any (λ d. is_on cut d && is_on cut (prev_of d)) (fan_of faces v)

-- A full cut that has each marked edge and, where marked lines break, a corner.
pub record IsCutBeside (faces : Faces) (marks cut : List Bool) : Type 0 where
  pub full : IsFullCut faces cut
  pub kept : (d : ℕ) → d < darts faces → is_on marks d ≡ true → is_on cut d ≡ true
  pub turned : (d : ℕ) → d < darts faces → is_break faces marks (from_of faces d) ≡ true
      → is_turn faces cut (from_of faces d) ≡ true

-- Whether the edge of d stays where it is marked, and the vertex that d leaves a corner where marked lines break.
abbrev pub is_kept : (faces : Faces) (marks cut : List Bool) (d : ℕ) → Bool
is_kept faces marks cut d = (not (is_on marks d) || is_on cut d)
    && (not (is_break faces marks (from_of faces d)) || is_turn faces cut (from_of faces d))

-- The same of all darts.
abbrev pub keeps_lines : (faces : Faces) (marks cut : List Bool) → Bool
keeps_lines faces marks cut = list_all (is_kept faces marks cut) (all_darts faces)

-- Each arc of such a cut is marked in all its edges or in none.
abbrev pub BesideArcLaw : Type 0
BesideArcLaw = (faces : Faces) (marks cut : List Bool) → IsManifold faces → AreMarks faces marks
    → IsCutBeside faces marks cut → (s n : ℕ) → IsRun (half_edges faces) (is_on cut) (is_node faces cut) s n
    → (k : ℕ) → k < n → is_on marks (easts (half_edges faces) s k) ≡ is_on marks s
