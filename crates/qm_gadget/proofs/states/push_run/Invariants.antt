use Rattle.{std.proofs.Common.◌≡◌, std.proofs.Common.◌++◌, def_flow.specs.Units.run}

abbrev pub invariant-loop-k : Rattle.qm_gadget.proofs.states.push_run.Given.invariant-loop-k
invariant-loop-k l = l.ons.items ≡ l.initial.ons.items ++ run l.up l.k
