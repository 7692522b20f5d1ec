-- Seams: arcs that are whole sides, as the code finds them.
use Rattle.std.specs.Prelude.{◌≡◌, ◌⊎◌, ℕ, suc, ◌+◌, ◌<◌, ◌≤◌, true, false, Some}
use Rattle.def_mesh.specs.HalfEdges.{HalfEdges}
use Rattle.def_cut.specs.Cuts.{Cut}
use Rattle.def_cut.specs.Steps.{easts}
use Rattle.def_merge.specs.Joins.{AreGlued, IsJoinable, IsOnArc, IsNameOf}
use Rattle.qm_merge.specs.declared.seams.Seam.{Seam}

-- The side from s is an arc, with this far side, length and name.
pub record IsGluedSeam (mesh : HalfEdges) (cut : Cut) (s : ℕ) (seam : Seam) : Type 0 where
  pub glued : AreGlued mesh cut s seam.far seam.long
  pub named : IsNameOf mesh s seam.far seam.long seam.name

-- And its patches differ.
pub record IsSeam (mesh : HalfEdges) (cut : Cut) (s : ℕ) (seam : Seam) : Type 0 where
  pub joinable : IsJoinable mesh cut s seam.far seam.long
  pub named : IsNameOf mesh s seam.far seam.long seam.name

-- n darts from s have twins that lie straight on from `far`, and these begin at the end of a side.
pub record AreGluedSoFar (mesh : HalfEdges) (cut : Cut) (s far n : ℕ) : Type 0 where
  pub across : (k j : ℕ) → k + suc j ≡ n → mesh.twin (easts mesh s k) ≡ Some (easts mesh far j)
  pub inside : (j : ℕ) → suc j < n → cut (mesh.next (easts mesh far j)) ≡ false
  pub ends : (j : ℕ) → suc j ≡ n → cut (mesh.next (easts mesh far j)) ≡ true

-- The least of s and of the darts so far.
pub record IsNameSoFar (mesh : HalfEdges) (s far n name : ℕ) : Type 0 where
  pub on : (name ≡ s) ⊎ IsOnArc mesh s far n name
  pub least : (d : ℕ) → IsOnArc mesh s far n d → name ≤ d
