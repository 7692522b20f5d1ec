use Rattle.std.proofs.Common.{◌≡◌}

abbrev pub invariant-loop : Rattle.qm_fraction.proofs.vertices.Vertices.break_cycle.Given.invariant-loop
invariant-loop l = l.self.g ≡ l.initial.self.g
