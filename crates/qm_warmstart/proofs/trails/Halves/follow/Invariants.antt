use Rattle.std.proofs.Common.{◌≡◌, ◌<◌}

abbrev pub invariant-loop : Rattle.qm_warmstart.proofs.trails.Halves.follow.Given.invariant-loop
invariant-loop l = (l.self.flow.now ≡ l.initial.self.flow.now) × (l.node < l.self.flow.now.cover.now.nodes)
