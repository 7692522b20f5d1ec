use Rattle.{def_cut.specs.FullCut.is_on, qm_tmesh.proofs.Walks.AreListed}

-- the marked vertices before v are listed, and each vertex before v has its place
abbrev pub invariant-loop-v : Rattle.qm_tmesh.proofs.nodes.list_marked.Given.invariant-loop-v
invariant-loop-v l = AreListed (is_on l.marks) l.v l.list.items l.places.items
