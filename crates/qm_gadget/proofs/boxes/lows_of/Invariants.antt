use Rattle.{std.proofs.Common.◌≡◌, std.proofs.Common.take, def_flow.specs.Units.arcwise, def_flow.specs.Units.low}

abbrev pub invariant-loop-k : Rattle.qm_gadget.proofs.boxes.lows_of.Given.invariant-loop-k
invariant-loop-k l =
    let arcs = l.stepped.lengths.net.whole.now.arcs.items in
    l.lows.items ≡ arcwise (low l.stepped.step) (take l.k arcs) (take l.k l.stepped.lengths.x.now)
