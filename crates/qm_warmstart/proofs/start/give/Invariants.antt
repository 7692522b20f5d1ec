use Rattle.std.proofs.Common.{◌≡◌, length}

abbrev pub invariant-loop-end : Rattle.qm_warmstart.proofs.start.give.Given.invariant-loop-end
invariant-loop-end l = length l.lengths ≡ length l.initial.lengths
