use Rattle.{std.proofs.Common.rules, std.proofs.lemmas.List.length-map, qm_gadget.proofs.Fans.states_long}

pub invariant_of-stated-clause-each : Rattle.qm_gadget.proofs.plan.plan_of.Goals.invariant_of-stated-clause-each
invariant_of-stated-clause-each c = search (rules, states_long, length-map)
