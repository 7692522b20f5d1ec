use Rattle.{std.proofs.Common.map, def_layout.specs.Arcs.path, qm_tmesh.specs.Uses.HasUsesBelow}

-- the uses of the arcs so far are in the table
abbrev pub invariant-loop-a : Rattle.qm_tmesh.proofs.uses.uses.Given.invariant-loop-a
invariant-loop-a l = HasUsesBelow l.mesh (map path l.arcs) l.a l.uses.items
