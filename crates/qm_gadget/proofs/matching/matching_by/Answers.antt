use Rattle.{std.proofs.Common.rules, qm_gadget.proofs.Fans.states_long, qm_gadget.proofs.OfList.ups_length}
use Rattle.qm_gadget.proofs.OfList.{plan_marks, plan_few}
use Rattle.qm_gadget.proofs.matching.matching_by.Goals as goal

pub invariant_of-stated : goal.invariant_of-stated
invariant_of-stated c = search (rules, ups_length, states_long)

pub invariant_of-laid-clause-few : goal.invariant_of-laid-clause-few
invariant_of-laid-clause-few c = rw c.deref-4.ensures.value (plan_few c.args.boxes.now.ready c.in_ok-plan.ensures).1

pub marks_told-requires : goal.marks_told-requires
marks_told-requires c = search (rules, plan_marks c.args.boxes.now.ready c.in_ok-plan.ensures)

pub returns : goal.returns
returns c = search (rules, ← plan_marks c.args.boxes.now.ready c.in_ok-plan.ensures)
