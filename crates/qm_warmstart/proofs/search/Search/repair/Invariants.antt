use Rattle.std.proofs.Common.{◌≡◌}

abbrev pub invariant-loop-from : Rattle.qm_warmstart.proofs.search.Search.repair.Given.invariant-loop-from
invariant-loop-from l = l.self.flow.cover.now ≡ l.initial.self.flow.cover.now
