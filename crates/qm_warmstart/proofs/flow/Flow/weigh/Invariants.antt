use Rattle.std.proofs.Common.{◌≡◌}

abbrev pub invariant-loop-way : Rattle.qm_warmstart.proofs.flow.Flow.weigh.Given.invariant-loop-way
invariant-loop-way l = l.self.cover.now ≡ l.initial.self.cover.now
