use Rattle.std.proofs.Common.{◌≡◌}

abbrev pub invariant-loop-v : Rattle.qm_fraction.proofs.search.Search.match_all.Given.invariant-loop-v
invariant-loop-v l = (l.self.vertices.g ≡ l.initial.self.vertices.g) × (l.self.exits ≡ l.initial.self.exits)
