use Rattle.std.proofs.Common.{◌≡◌, length}

abbrev pub invariant-loop-k : Rattle.qm_warmstart.proofs.blocking.Course.mark.Given.invariant-loop-k
invariant-loop-k l = (length l.self.on_path.items ≡ length l.initial.self.on_path.items) ×
    (length l.self.hit.items ≡ length l.initial.self.hit.items) × (l.self.path ≡ l.initial.self.path)
