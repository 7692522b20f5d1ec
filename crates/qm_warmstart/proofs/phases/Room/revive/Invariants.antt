use Rattle.std.proofs.Common.{◌≡◌}

abbrev pub invariant-loop-k : Rattle.qm_warmstart.proofs.phases.Room.revive.Given.invariant-loop-k
invariant-loop-k l = l.self.search ≡ l.initial.self.search
