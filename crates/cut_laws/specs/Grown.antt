-- What grows from a corner of a cut: rows of cells, one over the other.
use Rattle.std.specs.Prelude.{◌≡◌, ℕ, suc, ◌<◌, true, false}
use Rattle.def_mesh.specs.HalfEdges.{HalfEdges}
use Rattle.def_cut.specs.Cuts.{Cut}
use Rattle.def_cut.specs.Grids.{Cells}
use Rattle.def_cut.specs.Steps.{easts, norths}

-- The cells of the grid that grows from d.
abbrev pub grown : (mesh : HalfEdges) (d : ℕ) → Cells
grown mesh d i j = easts mesh (norths mesh d j) i

-- A row of w cells to the east of s, up to a cut edge.
pub record IsRow (mesh : HalfEdges) (cut : Cut) (s w : ℕ) : Type 0 where
  pub wide : 0 < w
  pub low : s < mesh.count
  pub inside : (i : ℕ) → suc i < w → cut (mesh.next (easts mesh s i)) ≡ false
  pub ends : (i : ℕ) → suc i ≡ w → cut (mesh.next (easts mesh s i)) ≡ true

-- h rows of w cells, one over the other, from d to a cut edge in the north.
pub record IsGrown (mesh : HalfEdges) (cut : Cut) (d w h : ℕ) : Type 0 where
  pub wide : 0 < w
  pub tall : 0 < h
  pub row : IsRow mesh cut d w
  pub inside : (j : ℕ) → suc j < h → cut (mesh.next (mesh.next (norths mesh d j))) ≡ false
  pub ends : (j : ℕ) → suc j ≡ h → cut (mesh.next (mesh.next (norths mesh d j))) ≡ true
