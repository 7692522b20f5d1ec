use Rattle.std.proofs.Common.{◌≡◌, length}

abbrev pub invariant-loop-v : Rattle.qm_fraction.proofs.vertices.Vertices.edges.Given.invariant-loop-v
invariant-loop-v l = length l.taken.items ≡ l.self.g.now.graph.n
