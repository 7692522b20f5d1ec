use Rattle.std.proofs.Common.{◌≡◌, ◌<◌, length}

abbrev pub invariant-loop : Rattle.qm_fraction.proofs.vertices.Vertices.follow.Given.invariant-loop
invariant-loop l = (length l.taken ≡ l.self.g.now.graph.n) × (l.at < l.self.g.now.graph.n)
