use Rattle.{std.proofs.Common.take, def_math.specs.Tables.IsTally, def_flow.specs.Units.active}

abbrev pub invariant-loop-k : Rattle.qm_gadget.proofs.states.bump_all.Given.invariant-loop-k
invariant-loop-k l = IsTally (λ v. active v (take l.k l.stated.units.now) (take l.k l.stated.ons.now))
    l.stated.nodes l.counts
