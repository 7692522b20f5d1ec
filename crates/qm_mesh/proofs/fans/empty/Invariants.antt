use Rattle.{std.proofs.Common.◌≡◌, std.proofs.Common.[], std.proofs.Common.replicate, qm_mesh.specs.Tables.fan_lists}

abbrev pub invariant-each : Rattle.qm_mesh.proofs.fans.empty.Given.invariant-each
invariant-each l = fan_lists l.fans.items ≡ replicate l.counter []
