use Rattle.def_mesh.specs.{Darts.darts, HalfEdges.half_edges}
use Rattle.{def_cut.specs.FullCut.is_on, qm_merge.specs.Links.AreSides, qm_merge.specs.Links.AreStarts}

-- the corners below c are linked
abbrev pub invariant-loop-c : Rattle.qm_merge.proofs.links.all_links.Given.invariant-loop-c
invariant-loop-c l = record {
  sides : AreSides (half_edges l.cut.faces) (is_on l.cut.marks) l.links.next.items l.links.long.items l.c;
  starts : AreStarts l.links.starts.items (darts l.cut.faces);
}
