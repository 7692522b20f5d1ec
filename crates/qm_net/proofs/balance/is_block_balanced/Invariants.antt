use Rattle.qm_net.specs.Balance.{AreBalances}

abbrev pub invariant-loop-k : Rattle.qm_net.proofs.balance.is_block_balanced.Given.invariant-loop-k
invariant-loop-k l = AreBalances l.lengths.net.whole.now.arcs.items l.lengths.x.now l.first l.k l.balances
