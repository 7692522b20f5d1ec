use Rattle.std.proofs.Common.{◌≡◌}

abbrev pub invariant-loop-place : Rattle.qm_warmstart.proofs.phases.Room.revive_before.Given.invariant-loop-place
invariant-loop-place l = l.self.search ≡ l.initial.self.search
