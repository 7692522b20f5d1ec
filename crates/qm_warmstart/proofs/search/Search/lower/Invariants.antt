use Rattle.std.proofs.Common.{◌≡◌}

abbrev pub invariant-loop-k : Rattle.qm_warmstart.proofs.search.Search.lower.Given.invariant-loop-k
invariant-loop-k l = (l.self.flow.cover.now ≡ l.initial.self.flow.cover.now) × (l.self.settled ≡ l.initial.self.settled)
