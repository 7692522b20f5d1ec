use Rattle.{std.proofs.Common.◌≡◌, std.proofs.Common.map, std.specs.List.range_with_len, def_mesh.specs.Kinds.kind_of}

abbrev pub invariant-loop-v : Rattle.qm_sing.proofs.origins.kinds.Given.invariant-loop-v
invariant-loop-v l = l.kinds.items ≡ map (kind_of l.mesh) (range_with_len 0 l.v)
