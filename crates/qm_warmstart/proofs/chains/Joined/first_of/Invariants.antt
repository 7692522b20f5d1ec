use Rattle.std.proofs.Common.{◌<◌, length}

abbrev pub invariant-loop : Rattle.qm_warmstart.proofs.chains.Joined.first_of.Given.invariant-loop
invariant-loop l = l.first < length l.self.at.items
