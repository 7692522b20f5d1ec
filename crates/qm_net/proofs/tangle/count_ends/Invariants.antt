use Rattle.{std.proofs.Common.take, def_math.specs.Tables.IsTally, def_flow.specs.Network.degree}

abbrev pub invariant-loop-arc : Rattle.qm_net.proofs.tangle.count_ends.Given.invariant-loop-arc
invariant-loop-arc l = IsTally (degree (take l.arc-index l.net.whole.now.arcs.items)) l.net.whole.now.nodes l.degrees
