use Rattle.{std.proofs.Common.rules, qm_gadget.proofs.OfList.plan_counts, qm_gadget.proofs.OfList.plan_few}
use Rattle.qm_gadget.proofs.lengths.lengths_over.Goals as goal

pub invariant_of-spread-clause-few : goal.invariant_of-spread-clause-few
invariant_of-spread-clause-few c = rw c.deref.ensures.value (plan_few c.args.boxes.now.ready c.in_ok-plan.ensures).1

pub states_in-requires-clause-wide : goal.states_in-requires-clause-wide
states_in-requires-clause-wide c = rw (
  c.deref.ensures.value,
  c.deref-2.ensures.value,
  plan_counts c.args.boxes.now.ready c.in_ok-plan.ensures,
  c.in_ok-plan.ensures.units,
) c.requires.edges.1

pub returns : goal.returns
returns c = rw (← plan_counts c.args.boxes.now.ready c.in_ok-plan.ensures) (search rules)
