use Rattle.{std.proofs.Common.◌≡◌, std.proofs.Common.◌++◌, std.proofs.Common.drop, gadget_laws.specs.Box.ups}

abbrev pub invariant-loop-k : Rattle.qm_gadget.proofs.matching.ups_of.Given.invariant-loop-k
invariant-loop-k l = l.raised.items ++ ups l.boxes.step (drop l.k l.boxes.lows.now) (drop l.k l.x2)
    ≡ ups l.boxes.step l.boxes.lows.now l.x2
