use Rattle.std.proofs.Common.{◌≡◌}

abbrev pub invariant-loop-place : Rattle.qm_fraction.proofs.search.Search.look_from.Given.invariant-loop-place
invariant-loop-place l = (l.self.vertices.g ≡ l.initial.self.vertices.g) × (l.self.exits ≡ l.initial.self.exits)
