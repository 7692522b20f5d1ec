use Rattle.std.proofs.Common.{◌≡◌}

abbrev pub invariant-loop-place : Rattle.qm_warmstart.proofs.trails.Halves.next_at.Given.invariant-loop-place
invariant-loop-place l = l.self.flow.now ≡ l.initial.self.flow.now
