use Rattle.{std.proofs.Common.◌≡◌, std.proofs.Common.◌++◌, std.proofs.Common.drop, qm_gadget.specs.Read.lengths_by}

abbrev pub invariant-loop-k : Rattle.qm_gadget.proofs.lengths.raise.Given.invariant-loop-k
invariant-loop-k l = l.ys.items ++ lengths_by l.boxes.step (drop l.k l.boxes.lows.now) (drop l.k l.boxes.caps.now)
    l.rest ≡ lengths_by l.boxes.step l.boxes.lows.now l.boxes.caps.now l.ons
