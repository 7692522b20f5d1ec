-- The laws of full cuts.
use Rattle.std.specs.Prelude.{◌≡◌, ◌↔◌, ℕ, ◌<◌, Bool, List, length}
use Rattle.def_mesh.specs.Faces.{Faces}
use Rattle.def_mesh.specs.HalfEdges.{HalfEdges, IsQuadManifold, half_edges}
use Rattle.def_mesh.specs.Darts.{darts}
use Rattle.def_mesh.specs.Manifold.{IsManifold}
use Rattle.def_cut.specs.Cuts.{Cut, Links, IsCorner, IsCut}
use Rattle.def_cut.specs.FullCut.{IsFullCut, is_on}
use Rattle.def_cut.specs.Grids.{Cells, IsGrid, Rectangle, IsPartition}
use Rattle.def_cut.specs.Steps.{spin}
use Rattle.def_cut.specs.Trails.{HasSources, IsTraced}

-- No grid is folded: no cell has a side in common with another one.
abbrev pub NoFoldLaw : Type 0
NoFoldLaw = (mesh : HalfEdges) (cut : Cut) (w h : ℕ) (cell : Cells)
    → IsQuadManifold mesh → IsCut mesh cut → IsGrid mesh cut w h cell
    → (i j a b k : ℕ) → i < w → j < h → a < w → b < h → cell i j ≡ spin mesh k (cell a b) → (i ≡ a) × (j ≡ b)

-- From each corner grows a grid.
abbrev pub GridLaw : Type 0
GridLaw = (mesh : HalfEdges) (cut : Cut) → IsQuadManifold mesh → IsCut mesh cut → (d : ℕ) → IsCorner mesh cut d
    → (w : ℕ) × (h : ℕ) × (cell : Cells) × (cell 0 0 ≡ d) × IsGrid mesh cut w h cell

-- At most one list of patches holds each face once.
abbrev pub OneListLaw : Type 0
OneListLaw = (mesh : HalfEdges) (cut : Cut) (face_of : ℕ → ℕ) → IsQuadManifold mesh → IsCut mesh cut
    → (ps qs : List Rectangle) → IsPartition mesh cut face_of ps → IsPartition mesh cut face_of qs → ps ≡ qs

-- Each class of faces of a traced cut has a corner.
abbrev pub CornerLaw : Type 0
CornerLaw = (mesh : HalfEdges) (start cut : ℕ → Bool)
    → IsQuadManifold mesh → HasSources mesh start → IsTraced mesh start cut
    → (d : ℕ) → d < mesh.count → (e : ℕ) × (n : ℕ) × Links mesh cut d e n × IsCorner mesh cut e

-- A full cut of a manifold list of faces is a full cut of its half edges, and the other way round.
abbrev pub FullCutLaw : Type 0
FullCutLaw = (faces : Faces) (marks : List Bool) → IsManifold faces
    → IsFullCut faces marks ↔ ((length marks ≡ darts faces) × IsCut (half_edges faces) (is_on marks))
