use Rattle.{std.proofs.Common.arith, qm_initial.proofs.Lowering.more_room}

pub loop-e-preserved : Rattle.qm_initial.proofs.initial.lower_all.Goals.loop-e-preserved
loop-e-preserved c = more_room c.args.g.now.graph c.args.g.now.small.lawful c.requires.cheap c.args.y.now c.loop-e.y
    c.make_room.new.y c.loop-e.e _ (omega (arith, c.loop-e-test.true, c.edge_count-e-end.ensures.value))
    c.loop-e.invariant c.requires.long c.edge-edge.ensures.value c.make_room.ensures
