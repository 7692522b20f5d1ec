use Rattle.{std.proofs.Common.◌≡◌, std.proofs.Common.map, std.specs.List.range_with_len, def_layout.specs.Nodes.is_node}

-- the vertices before v have their marks
abbrev pub invariant-loop-v : Rattle.qm_tmesh.proofs.nodes.node_marks.Given.invariant-loop-v
invariant-loop-v l = l.marks.items ≡ map (is_node l.mesh l.cut) (range_with_len 0 l.v)
