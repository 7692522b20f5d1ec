use Rattle.std.proofs.Common.{◌≡◌}

abbrev pub invariant-loop-node : Rattle.qm_warmstart.proofs.phases.Room.find_sources.Given.invariant-loop-node
invariant-loop-node l = l.self.search ≡ l.initial.self.search
