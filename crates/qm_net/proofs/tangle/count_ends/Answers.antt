use Rattle.std.proofs.Common.{false, None, arith}
use Rattle.{def_flow.specs.declared.net.Arc.Arc, qm_net.proofs.Ends.degrees_few, qm_net.proofs.Ends.degrees_more}
use Rattle.qm_net.proofs.tangle.count_ends.Goals as goal

abbrev no_arc : Arc
no_arc = record { left = record { node = 0; plus = false }; right = None; old = 0; weight = 0; floor = 0 }

pub count_arc-requires-clause-small : goal.count_arc-requires-clause-small
count_arc-requires-clause-small c =
    let net = c.args.net.now.whole.now in
    λ v. omega (
      arith,
      c.args.net.now.bounds.few,
      degrees_few net.arcs.items c.loop-arc.arc-index net.nodes c.loop-arc.degrees (omega arith) c.loop-arc.invariant v,
    )

pub loop-arc-preserved : goal.loop-arc-preserved
loop-arc-preserved c = rw (← c.deref-arc-items.ensures.value) (degrees_more c.deref-arc-items.result.now no_arc
    c.loop-arc.arc-index c.args.net.now.whole.now.nodes c.loop-arc.degrees c.count_arc.new.degrees c.loop-arc-test.true
    (rw c.deref-arc-items.ensures.value c.loop-arc.invariant) c.count_arc.ensures)
