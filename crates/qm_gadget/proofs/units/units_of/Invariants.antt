use Rattle.std.proofs.Common.{◌≡◌, ◌++◌, drop}
use Rattle.def_flow.specs.{Network.network, Units.units_over}

abbrev pub invariant-loop-k : Rattle.qm_gadget.proofs.units.units_of.Given.invariant-loop-k
invariant-loop-k l = l.units.items ++ units_over (network l.boxes.net.whole.now) l.boxes.step
    (drop l.k l.boxes.net.whole.now.arcs.items) (drop l.k l.boxes.lows.now) (drop l.k l.boxes.caps.now) ≡ units_over
    (network l.boxes.net.whole.now) l.boxes.step l.boxes.net.whole.now.arcs.items l.boxes.lows.now l.boxes.caps.now
