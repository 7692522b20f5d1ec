use Rattle.{std.proofs.Common.refl, def_flow.specs.Network.network, qm_solve.proofs.Starts.even_start}

pub returns : Rattle.qm_solve.proofs.start.start_of.Goals.returns
returns c = λ even. c.near_or.ensures
    (rw c.in_ok-lengths.ensures (even_start (network c.args.net.now.whole.now) _ c.args.net.now.bounds even refl))
