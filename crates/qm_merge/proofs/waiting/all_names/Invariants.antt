use Rattle.qm_merge.specs.{Links.AreTied, Waiting.AreBelow, Waiting.IsNoted}
use Rattle.{std.proofs.Common.◌<◌, std.proofs.Common.ℕ, def_mesh.specs.Darts.darts, def_mesh.specs.HalfEdges.half_edges}
use Rattle.{def_cut.specs.FullCut.is_on, def_merge.specs.Joins.IsJoinable, def_merge.specs.Joins.IsNameOf}

-- the arcs with a side that begins below d wait
abbrev pub invariant-loop-d : Rattle.qm_merge.proofs.waiting.all_names.Given.invariant-loop-d
invariant-loop-d l = record {
  tied : AreTied (half_edges l.cut.faces) (is_on l.cut.marks) l.links;
  all : (s t n name : ℕ) → s < l.d → IsJoinable (half_edges l.cut.faces) (is_on l.cut.marks) s t n
      → IsNameOf (half_edges l.cut.faces) s t n name → IsNoted l.names l.links.starts.items s t name;
  below : AreBelow l.names (darts l.cut.faces);
}
