use Rattle.std.proofs.Common.{◌≡◌}

abbrev pub invariant-loop : Rattle.qm_fraction.proofs.search.Search.find.Given.invariant-loop
invariant-loop l = (l.self.vertices.g ≡ l.initial.self.vertices.g) × (l.self.exits ≡ l.initial.self.exits)
