use Rattle.{std.proofs.Common.◌+◌, std.proofs.Common.ap, qm_gadget.proofs.OfList.arcwise_next}

pub loop-k-preserved : Rattle.qm_gadget.proofs.boxes.caps_of.Goals.loop-k-preserved
loop-k-preserved c = arcwise_next _ _ _ _ c.args.stepped.now.lengths.all.count c.loop-k-test.true c.loop-k.invariant
    c.in_ok-push.ensures.items (ap (λ d. d + 2) c.steps_down.ensures.value) c.index-arc.ensures
