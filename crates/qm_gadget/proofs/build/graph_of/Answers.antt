use Rattle.std.proofs.Common.{rules, ◌≡◌, refl, ◌∙◌, arith}
use Rattle.def_flow.specs.{Network.network, MatchingGraph.matching_graph}
use Rattle.qm_gadget.proofs.{Fans.downs, OfList.list_ready, OfList.graph_fits, build.graph_of.Goals.After-deref-2}
use Rattle.qm_gadget.specs.Ready.{graph_by_lows}
use Rattle.qm_gadget.proofs.build.graph_of.Goals as goal

-- The graph of the lists that are read is the matching graph.
graph_is : (c : After-deref-2) → graph_by_lows (network c.args.net.now.whole.now) c.args.step c.deref.result.now
    c.deref-2.result.now ≡ matching_graph (network c.args.net.now.whole.now) c.args.step c.args.x.now
graph_is c = rw (
  c.deref.ensures.value,
  c.deref-2.ensures.value,
  c.in_ok-low.ensures,
  c.in_ok-cap.ensures,
  downs c.args.step c.args.net.now.whole.now.arcs.items c.args.x.now,
) refl

pub invariant_of-boxes-clause-ready : goal.invariant_of-boxes-clause-ready
invariant_of-boxes-clause-ready c =
    rw (c.deref.ensures.value, c.deref-2.ensures.value, c.in_ok-low.ensures, c.in_ok-cap.ensures)
    (list_ready c.args.step c.args.net.now.bounds c.requires.lengths c.requires.admissible c.requires.tangle)

pub graph_over-requires : goal.graph_over-requires
graph_over-requires c = omega (
  arith,
  graph_fits c.args.step c.args.net.now.bounds c.requires.lengths c.requires.admissible c.requires.tangle
      (graph_is (goal.at.graph_over-requires c).After-deref-2),
)

pub returns : goal.returns
returns c =
    let given = c.requires in
    let is = c.in_ok-graph.ensures ∙ graph_is (goal.at.returns c).After-deref-2 in
    let fits = graph_fits c.args.step c.args.net.now.bounds given.lengths given.admissible given.tangle is in
    search (rules, is, fits, fits.3 given.step.1)
