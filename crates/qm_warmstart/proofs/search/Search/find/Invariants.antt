use Rattle.std.proofs.Common.{◌≡◌}

abbrev pub invariant-loop : Rattle.qm_warmstart.proofs.search.Search.find.Given.invariant-loop
invariant-loop l = l.self.flow ≡ l.initial.self.flow
