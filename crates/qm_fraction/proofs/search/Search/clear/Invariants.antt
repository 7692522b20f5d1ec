use Rattle.std.proofs.Common.{◌≡◌}

abbrev pub invariant-loop-k : Rattle.qm_fraction.proofs.search.Search.clear.Given.invariant-loop-k
invariant-loop-k l = (l.self.vertices.g ≡ l.initial.self.vertices.g) × (l.self.exits ≡ l.initial.self.exits) ×
    (l.self.reached ≡ l.initial.self.reached)
