use Rattle.std.proofs.Common.{◌≡◌}

abbrev pub invariant-loop-k : Rattle.qm_warmstart.proofs.phases.Room.hold.Given.invariant-loop-k
invariant-loop-k l = (l.self.search ≡ l.initial.self.search) × (l.self.awake ≡ l.initial.self.awake)
