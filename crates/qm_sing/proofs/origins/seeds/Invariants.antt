use Rattle.{std.proofs.Common.◌≡◌, std.specs.List.filter, std.specs.List.range_with_len, qm_sing.specs.Rings.is_seed}

abbrev pub invariant-loop-v : Rattle.qm_sing.proofs.origins.seeds.Given.invariant-loop-v
invariant-loop-v l = l.seeds.items ≡ filter (is_seed l.mesh) (range_with_len 0 l.v)
