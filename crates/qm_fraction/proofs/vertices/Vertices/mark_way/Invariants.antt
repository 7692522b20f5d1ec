use Rattle.std.proofs.Common.{◌≡◌, ◌<◌}

abbrev pub invariant-loop : Rattle.qm_fraction.proofs.vertices.Vertices.mark_way.Given.invariant-loop
invariant-loop l = (l.self.g ≡ l.initial.self.g) × (l.at < l.self.g.now.graph.n)
