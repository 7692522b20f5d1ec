use Rattle.std.proofs.Common.{◌≡◌, ◌++◌, slice_index}
use Rattle.def_flow.specs.{Network.arc_at, Network.network, Units.units_from}

abbrev pub invariant-loop-j : Rattle.qm_gadget.proofs.units.push_units_of.Given.invariant-loop-j
invariant-loop-j l = l.units.items ≡ l.initial.units.items ++ units_from (network l.boxes.net.whole.now) l.boxes.step
    (arc_at l.boxes.net.whole.now.arcs.items l.k) (slice_index l.boxes.lows.now l.k) 0 l.j
