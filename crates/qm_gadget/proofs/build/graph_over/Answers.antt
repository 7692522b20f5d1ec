use Rattle.std.proofs.Common.{rules}
use Rattle.{std.proofs.Common.arith, qm_gadget.proofs.OfList.plan_graph, qm_gadget.proofs.OfList.plan_small}
use Rattle.qm_gadget.proofs.build.graph_over.Goals as goal

pub new-requires : goal.new-requires
new-requires c = omega (arith, plan_small c.args.boxes.now.ready c.in_ok-plan.ensures c.requires)

pub lay_out-requires : goal.lay_out-requires
lay_out-requires c = grind (arith, plan_small c.args.boxes.now.ready c.in_ok-plan.ensures c.requires)

pub returns : goal.returns
returns c = search (rules, ← plan_graph c.args.boxes.now.ready c.in_ok-plan.ensures)
