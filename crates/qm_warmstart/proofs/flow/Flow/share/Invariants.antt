use Rattle.std.proofs.Common.{◌≡◌}

abbrev pub invariant-loop-chain : Rattle.qm_warmstart.proofs.flow.Flow.share.Given.invariant-loop-chain
invariant-loop-chain l = l.self.cover.now ≡ l.initial.self.cover.now
