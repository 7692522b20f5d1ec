use Rattle.std.proofs.Common.{◌≡◌, ◌+◌, ◌%◌, cond, drop}
use Rattle.def_flow.specs.Units.{rim_active}

abbrev pub invariant-loop-k : Rattle.qm_gadget.proofs.states.is_rim_odd.Given.invariant-loop-k
invariant-loop-k l = (cond l.odd 1 0 + rim_active (drop l.k l.stated.units.now) (drop l.k l.stated.ons.now)) % 2
    ≡ rim_active l.stated.units.now l.stated.ons.now % 2
