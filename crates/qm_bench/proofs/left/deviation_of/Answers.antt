use Rattle.{def_flow.specs.Network.network, qm_solve.proofs.Starts.start_lengths}

pub deviation-requires-clause-lengths : Rattle.qm_bench.proofs.left.deviation_of.Goals.deviation-requires-clause-lengths
deviation-requires-clause-lengths c = rw c.deref.ensures.value (start_lengths (network c.args.descent.now.net.whole.now)
    c.args.descent.now.x.items c.args.descent.now.net.bounds c.args.descent.now.start)
