use Rattle.std.proofs.Common.{◌≡◌}

abbrev pub invariant-loop : Rattle.qm_warmstart.proofs.phases.Room.balance.Given.invariant-loop
invariant-loop l = l.self.search.flow.cover.now ≡ l.initial.self.search.flow.cover.now
