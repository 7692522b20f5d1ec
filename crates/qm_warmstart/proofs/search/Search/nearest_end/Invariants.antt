use Rattle.std.proofs.Common.{◌≡◌}

abbrev pub invariant-loop : Rattle.qm_warmstart.proofs.search.Search.nearest_end.Given.invariant-loop
invariant-loop l = l.self.flow ≡ l.initial.self.flow
