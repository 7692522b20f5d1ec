use Rattle.std.proofs.Common.{length, ap, ◌∙◌, sym, rules}
use Rattle.def_flow.specs.{Admissible.AreNetLengths, Gadget.lows, Gadget.caps, Network.network}
use Rattle.qm_solve.proofs.Rounds.{own_inside}
use Rattle.qm_bench.proofs.graphs.write_graph.Goals as goal

pub matching_of-requires-clause-inside : goal.matching_of-requires-clause-inside
matching_of-requires-clause-inside c =
    let lengths : AreNetLengths (network c.in-Ok.net).arcs c.deref.result.now = search rules in
    rw c.deref-3.ensures.value (own_inside (network c.in-Ok.net) 1 c.in_ok-gadget.gadget.step c.in_ok-x.x.items
    c.in_ok-gadget.gadget.low.items c.in_ok-gadget.gadget.cap.items (ap length (sym c.deref.ensures.value)
    ∙ lengths.count) c.in_ok-gadget.ensures.step (c.in_ok-gadget.ensures.low ∙ ap (lows (network c.in-Ok.net) 1)
    c.deref-2.ensures.value) (c.in_ok-gadget.ensures.cap ∙ ap (caps (network c.in-Ok.net) 1) c.deref-2.ensures.value))
