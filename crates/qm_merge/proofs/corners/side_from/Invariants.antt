use Rattle.std.proofs.Common.{◌≡◌, ◌<◌, ℕ, false}
use Rattle.def_mesh.specs.{Darts.darts, Darts.next_of, HalfEdges.half_edges}
use Rattle.def_cut.specs.{FullCut.is_on, Steps.easts}

-- the walk stands at its next dart, and has not met the end
abbrev pub invariant-loop-n : Rattle.qm_merge.proofs.corners.side_from.Given.invariant-loop-n
invariant-loop-n l = record {
  at : l.d ≡ easts (half_edges l.cut.faces) l.corner l.n;
  low : l.d < darts l.cut.faces;
  inside : (k : ℕ) → k < l.n → is_on l.cut.marks (next_of (easts (half_edges l.cut.faces) l.corner k)) ≡ false;
}
