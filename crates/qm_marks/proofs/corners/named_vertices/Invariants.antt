use Rattle.{def_marks.specs.Lines.named_vertex, std.proofs.Common.map, std.proofs.Common.take, std.proofs.Common.◌≡◌}

abbrev pub invariant-loop-index : Rattle.qm_marks.proofs.corners.named_vertices.Given.invariant-loop-index
invariant-loop-index l = l.chain.items ≡ map (named_vertex l.names.all.now) (take l.index-index l.indices)
