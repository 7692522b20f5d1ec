use Rattle.{std.proofs.Common.ap, std.proofs.Common.◌∙◌, def_flow.specs.Gadget.lows, def_flow.specs.Gadget.caps}
use Rattle.{def_flow.specs.Network.network, qm_solve.proofs.Starts.start_lengths, qm_solve.proofs.Rounds.own_inside}
use Rattle.qm_bench.proofs.left.searches_left.Goals as goal

pub graph_of-requires-clause-lengths : goal.graph_of-requires-clause-lengths
graph_of-requires-clause-lengths c = rw c.deref.ensures.value (start_lengths (network c.args.descent.now.net.whole.now)
    c.args.descent.now.x.items c.args.descent.now.net.bounds c.args.descent.now.start)

pub matching_of-requires-clause-inside : goal.matching_of-requires-clause-inside
matching_of-requires-clause-inside c = rw c.deref-2.ensures.value (own_inside (network c.args.descent.now.net.whole.now)
    c.args.descent.now.step c.in_ok-gadget.gadget.step c.args.descent.now.x.items c.in_ok-gadget.gadget.low.items
    c.in_ok-gadget.gadget.cap.items c.args.descent.now.start.count c.in_ok-gadget.ensures.step
    (c.in_ok-gadget.ensures.low ∙ ap (lows (network c.args.descent.now.net.whole.now) c.args.descent.now.step)
    c.deref.ensures.value) (c.in_ok-gadget.ensures.cap ∙ ap (caps (network c.args.descent.now.net.whole.now)
    c.args.descent.now.step) c.deref.ensures.value))
