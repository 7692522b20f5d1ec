-- Rectangular grids of cells in a cut mesh, and lists of them that hold each face once.
use Rattle.std.specs.Prelude.{◌≡◌, ℕ, suc, ◌+◌, ◌*◌, ◌<◌, ◌≤◌, min, true, false, List, [], ◌∷◌, map, length}
use Rattle.std.specs.Prelude.{slice_index_or, Some}
use Rattle.def_mesh.specs.HalfEdges.{HalfEdges}
use Rattle.def_cut.specs.Cuts.{Cut}
use Rattle.def_cut.specs.Steps.{spin}
use Rattle.def_cut.specs.declared.patch.Patch.{Patch}

-- The south darts of the cells (i, j) of a grid.
abbrev pub Cells : Type 0
Cells = ℕ → ℕ → ℕ

-- A grid of w by h cells. Neighbours are joined over edges that are not cut, and each edge round the grid is cut.
pub record IsGrid (mesh : HalfEdges) (cut : Cut) (w h : ℕ) (cell : Cells) : Type 0 where
  pub wide : 0 < w
  pub tall : 0 < h
  pub low : (i j : ℕ) → i < w → j < h → cell i j < mesh.count
  pub east : (i j : ℕ) → suc i < w → j < h → mesh.twin (mesh.next (cell i j)) ≡ Some (mesh.prev (cell (suc i) j))
  pub north : (i j : ℕ) → i < w → suc j < h → mesh.twin (mesh.next (mesh.next (cell i j))) ≡ Some (cell i (suc j))
  pub east_open : (i j : ℕ) → suc i < w → j < h → cut (mesh.next (cell i j)) ≡ false
  pub north_open : (i j : ℕ) → i < w → suc j < h → cut (mesh.next (mesh.next (cell i j))) ≡ false
  pub south_shut : (i : ℕ) → i < w → cut (cell i 0) ≡ true
  pub west_shut : (j : ℕ) → j < h → cut (mesh.prev (cell 0 j)) ≡ true
  pub east_shut : (i j : ℕ) → suc i ≡ w → j < h → cut (mesh.next (cell i j)) ≡ true
  pub north_shut : (i j : ℕ) → i < w → suc j ≡ h → cut (mesh.next (mesh.next (cell i j))) ≡ true

-- A grid whose first cell has the least of its four corner darts.
pub record IsPatch (mesh : HalfEdges) (cut : Cut) (w h : ℕ) (cell : Cells) : Type 0 where
  pub grid : IsGrid mesh cut w h cell
  pub least_east : (i : ℕ) → suc i ≡ w → cell 0 0 ≤ mesh.next (cell i 0)
  pub least_far : (i j : ℕ) → suc i ≡ w → suc j ≡ h → cell 0 0 ≤ mesh.next (mesh.next (cell i j))
  pub least_north : (j : ℕ) → suc j ≡ h → cell 0 0 ≤ mesh.prev (cell 0 j)

-- A patch as contracts see it.
pub record Rectangle : Type 0 where
  pub w : ℕ
  pub h : ℕ
  pub cells : List ℕ

abbrev pub rectangle : (patch : Patch) → Rectangle
rectangle patch = record { w = patch.w; h = patch.h; cells = patch.cells.items }

-- The south dart of cell (i, j): rows stand one after the other.
abbrev pub cell_of : (patch : Rectangle) → Cells
cell_of patch i j = slice_index_or patch.cells (j * patch.w + i) 0

abbrev pub patch_at : (patches : List Rectangle) (k : ℕ) → Rectangle
patch_at patches k = slice_index_or patches k (record { w = 0; h = 0; cells = [] })

-- The least of some numbers, of which there is one.
abbrev pub least_of : (numbers : List ℕ) → ℕ
least_of [] = 0
least_of (x ∷ []) = x
least_of (x ∷ y ∷ more) = min x (least_of (y ∷ more))

-- Dart d is the k-th side of cell (i, j) of a patch.
pub record IsSide (mesh : HalfEdges) (patch : Rectangle) (i j k d : ℕ) : Type 0 where
  pub i_low : i < patch.w
  pub j_low : j < patch.h
  pub is : d ≡ spin mesh k (cell_of patch i j)

-- A list of patches that holds each face once, in order of their least faces. Dart d lies in face `face_of d`.
pub record IsPartition (mesh : HalfEdges) (cut : Cut) (face_of : ℕ → ℕ) (patches : List Rectangle) : Type 0 where
  pub patch : (p : ℕ) → p < length patches
      → IsPatch mesh cut (patch_at patches p).w (patch_at patches p).h (cell_of (patch_at patches p))
  pub sized : (p : ℕ) → p < length patches
      → length (patch_at patches p).cells ≡ (patch_at patches p).h * (patch_at patches p).w
  -- Each dart is a side of a cell, and cells with a dart in common are one.
  pub covers : (d : ℕ) → d < mesh.count
      → (p : ℕ) × (i : ℕ) × (j : ℕ) × (k : ℕ) × (p < length patches) × IsSide mesh (patch_at patches p) i j k d
  pub once : (d p i j k q a b l : ℕ) → p < length patches → q < length patches
      → IsSide mesh (patch_at patches p) i j k d → IsSide mesh (patch_at patches q) a b l d
      → (p ≡ q) × (i ≡ a) × (j ≡ b)
  pub ordered : (p : ℕ) → suc p < length patches
      → least_of (map face_of (patch_at patches p).cells) < least_of (map face_of (patch_at patches (suc p)).cells)
