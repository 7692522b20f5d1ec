use Rattle.{std.proofs.Common.◌≡◌, std.proofs.Common.◌++◌, std.proofs.Common.drop, def_flow.specs.Units.states_over}

abbrev pub invariant-loop-k : Rattle.qm_gadget.proofs.states.states_of.Given.invariant-loop-k
invariant-loop-k l = l.ons.items ++ states_over (drop l.k l.caps) (drop l.k l.ups) ≡ states_over l.caps l.ups
