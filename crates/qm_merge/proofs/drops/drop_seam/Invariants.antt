use Rattle.{std.proofs.Common.◌≡◌, std.proofs.Common.◌-◌, std.proofs.Common.length, def_mesh.specs.HalfEdges.half_edges}
use Rattle.{def_cut.specs.FullCut.is_on, def_cut.specs.Steps.easts, qm_merge.proofs.Linked.HaveLeft}

-- the first k edges have left, and d lies on the last of them
abbrev pub invariant-loop-k : Rattle.qm_merge.proofs.drops.drop_seam.Given.invariant-loop-k
invariant-loop-k l = record {
  long : length l.cut ≡ length l.fn.cut;
  at : l.d ≡ easts (half_edges l.mesh) l.s (l.k - 1);
  left : HaveLeft (half_edges l.mesh) (is_on l.fn.cut) (is_on l.cut) l.s l.fn.seam.far l.fn.seam.long l.k;
}
