use Rattle.std.proofs.Common.{ap, length, ◌∙◌, arith}
use Rattle.{def_flow.specs.Network.network, qm_cert.specs.Faults.compared_verdict, qm_cert.proofs.Checked.compared_is}
use Rattle.qm_cert.proofs.list.unequal_sides.Goals as goal

pub invariant_of-sides-clause-few : goal.invariant_of-sides-clause-few
invariant_of-sides-clause-few c = omega (arith, ap length c.deref.ensures.value, c.in_ok-plus.ensures.few)

pub returns : goal.returns
returns c =
    let lengths = c.args.lengths.now in
    c.difference.ensures ∙ (ap (λ xs. compared_verdict xs c.deref-2.result.now) c.deref.ensures.value
    ∙ (ap (compared_verdict c.in_ok-plus.plus.items) c.deref-2.ensures.value
    ∙ compared_is (network lengths.net.whole.now) lengths.x.now c.in_ok-plus.plus.items c.in_ok-minus.minus.items
    c.in_ok-plus.ensures.sides c.in_ok-minus.ensures.sides))
