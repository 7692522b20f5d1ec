use Rattle.std.proofs.Common.{◌≡◌}

abbrev pub invariant-loop-end-2 : Rattle.qm_warmstart.proofs.worth.Prices.put_between.Given.invariant-loop-end-2
invariant-loop-end-2 l = l.self.net ≡ l.initial.self.net
