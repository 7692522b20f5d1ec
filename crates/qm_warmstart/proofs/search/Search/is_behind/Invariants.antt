use Rattle.std.proofs.Common.{◌<◌}

abbrev pub invariant-loop : Rattle.qm_warmstart.proofs.search.Search.is_behind.Given.invariant-loop
invariant-loop l = l.node < l.self.flow.cover.now.nodes
