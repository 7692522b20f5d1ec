use Rattle.std.proofs.Common.{◌≡◌}

abbrev pub invariant-loop-place : Rattle.qm_warmstart.proofs.search.Search.step_from.Given.invariant-loop-place
invariant-loop-place l = l.self.flow ≡ l.initial.self.flow
