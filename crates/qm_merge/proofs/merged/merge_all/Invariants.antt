use Rattle.def_mesh.specs.{Darts.darts, HalfEdges.half_edges}
use Rattle.def_merge.specs.{Merged.Steps, Beside.may_beside}
use Rattle.qm_merge.specs.{Links.AreTied, Waiting.AreBelow, Waiting.FreeWait, Waiting.left_over}
use Rattle.{std.proofs.Common.ℕ, def_cut.specs.FullCut.is_on, def_known.specs.Cutting.IsCutting}
use Rattle.qm_merge.proofs.merged.merge_all.Given as goal

abbrev pub decreases-loop-name : goal.decreases-loop-name
decreases-loop-name l = left_over l.cut l.names

-- so many arcs have left, each the first of its cut, the corners are linked, and all that are joinable wait
abbrev pub invariant-loop-name : goal.invariant-loop-name
invariant-loop-name l = record {
  cutting : IsCutting l.mesh l.cut;
  tied : AreTied (half_edges l.mesh) (is_on l.cut) l.links;
  reached : (k : ℕ) × Steps l.mesh (may_beside l.mesh l.marks) l.fn.cut l.cut k;
  waiting : FreeWait (half_edges l.mesh) (is_on l.cut) (may_beside l.mesh l.marks l.cut) l.names l.links.starts.items;
  below : AreBelow l.names (darts l.mesh);
}
