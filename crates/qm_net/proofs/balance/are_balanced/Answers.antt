use Rattle.{std.proofs.Common.refl, def_flow.specs.Network.network, qm_net.proofs.Balances.balanced_everywhere}

pub returns : Rattle.qm_net.proofs.balance.are_balanced.Goals.returns
returns c =
    let lengths = c.args.lengths.now in (
      λ on. balanced_everywhere (network lengths.net.whole.now) lengths.net.bounds lengths.x.now c.loop-first.first
          c.loop-first-test.false c.loop-first.invariant.balanced,
      λ balanced. refl,
    )
