use Rattle.std.proofs.Common.{◌<◌}

abbrev pub invariant-loop : Rattle.qm_fraction.proofs.vertices.Vertices.first_marked.Given.invariant-loop
invariant-loop l = l.at < l.self.g.now.graph.n
