use Rattle.std.proofs.Common.{◌≡◌, ◌<◌, ℕ, false}
use Rattle.def_mesh.specs.{Darts.darts, Darts.next_of, HalfEdges.half_edges}
use Rattle.def_cut.specs.{FullCut.is_on, Steps.easts}
use Rattle.qm_merge.specs.Seams.{AreGluedSoFar, IsNameSoFar}

-- n darts of the near side and their twins have been met, and no end of the side
abbrev pub invariant-loop-n : Rattle.qm_merge.proofs.seams.glued_from.Given.invariant-loop-n
invariant-loop-n l = record {
  at : l.d ≡ easts (half_edges l.cut.faces) l.s l.n;
  low : l.d < darts l.cut.faces;
  inside : (k : ℕ) → k < l.n → is_on l.cut.marks (next_of (easts (half_edges l.cut.faces) l.s k)) ≡ false;
  glued : AreGluedSoFar (half_edges l.cut.faces) (is_on l.cut.marks) l.s l.far l.n;
  named : IsNameSoFar (half_edges l.cut.faces) l.s l.far l.n l.name;
}
