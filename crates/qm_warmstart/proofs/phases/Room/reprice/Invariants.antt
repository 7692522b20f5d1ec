use Rattle.std.proofs.Common.{◌≡◌}

abbrev pub invariant-loop-k : Rattle.qm_warmstart.proofs.phases.Room.reprice.Given.invariant-loop-k
invariant-loop-k l = (l.self.search.flow ≡ l.initial.self.search.flow) × (l.self.awake ≡ l.initial.self.awake)
