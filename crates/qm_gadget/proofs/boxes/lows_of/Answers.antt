use Rattle.{def_flow.specs.Units.low, qm_gadget.proofs.OfList.arcwise_next}

pub loop-k-preserved : Rattle.qm_gadget.proofs.boxes.lows_of.Goals.loop-k-preserved
loop-k-preserved c = arcwise_next (low c.args.stepped.now.step) _ _ c.loop-k.k c.args.stepped.now.lengths.all.count
    c.loop-k-test.true c.loop-k.invariant c.in_ok-push.ensures.items c.low_of.ensures.value c.index-arc.ensures
