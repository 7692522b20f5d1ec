use Rattle.std.proofs.Common.{◌≡◌}

abbrev pub invariant-loop-k : Rattle.qm_warmstart.proofs.search.Search.clear.Given.invariant-loop-k
invariant-loop-k l = (l.self.flow ≡ l.initial.self.flow) × (l.self.reached ≡ l.initial.self.reached)
