use Rattle.{std.proofs.Common.map, def_layout.specs.Arcs.path, qm_tmesh.specs.Arcs.AreArcsBelow}

-- the arcs with the names so far are listed
abbrev pub invariant-loop-start : Rattle.qm_tmesh.proofs.arcs.arcs.Given.invariant-loop-start
invariant-loop-start l = AreArcsBelow l.mesh l.cut l.nodes.listed.list.items l.start-index (map path l.arcs.items)
