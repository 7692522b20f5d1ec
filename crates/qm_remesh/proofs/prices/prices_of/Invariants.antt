use Rattle.{def_flow.specs.Network.network, qm_remesh.specs.Rounds.ArePrices}

abbrev pub invariant-loop-k : Rattle.qm_remesh.proofs.prices.prices_of.Given.invariant-loop-k
invariant-loop-k l = ArePrices (network l.net.whole.now) l.x l.k l.prices.items
