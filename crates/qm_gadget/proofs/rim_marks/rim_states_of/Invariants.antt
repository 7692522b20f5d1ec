use Rattle.{std.proofs.Common.◌≡◌, std.proofs.Common.◌++◌, std.proofs.Common.drop, gadget_laws.specs.Marks.rim_states}

abbrev pub invariant-loop-k : Rattle.qm_gadget.proofs.rim_marks.rim_states_of.Given.invariant-loop-k
invariant-loop-k l = l.states.items ++ rim_states (drop l.k l.stated.units.now) (drop l.k l.stated.ons.now) ≡ rim_states
    l.stated.units.now l.stated.ons.now
