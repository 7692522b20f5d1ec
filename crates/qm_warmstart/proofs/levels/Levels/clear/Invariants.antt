use Rattle.std.proofs.Common.{◌≡◌, length}

abbrev pub invariant-loop-k : Rattle.qm_warmstart.proofs.levels.Levels.clear.Given.invariant-loop-k
invariant-loop-k l = (length l.self.level.items ≡ length l.initial.self.level.items)
    × (l.self.reached ≡ l.initial.self.reached)
