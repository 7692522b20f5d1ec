use Rattle.std.proofs.Common.{◌≡◌}

abbrev pub invariant-loop-k : Rattle.qm_warmstart.proofs.phases.Room.send.Given.invariant-loop-k
invariant-loop-k l = (l.self.search.flow.cover.now ≡ l.initial.self.search.flow.cover.now) ×
    (l.self.course ≡ l.initial.self.course) × (l.self.awake ≡ l.initial.self.awake)
