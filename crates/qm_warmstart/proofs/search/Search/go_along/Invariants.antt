use Rattle.std.proofs.Common.{◌≡◌, ◌<◌}

abbrev pub invariant-loop : Rattle.qm_warmstart.proofs.search.Search.go_along.Given.invariant-loop
invariant-loop l = (l.self.flow.cover.now ≡ l.initial.self.flow.cover.now) × (l.node < l.self.flow.cover.now.nodes)
