use Rattle.std.proofs.Common.{◌≡◌, length, refl, sym, ◌∙◌, arith}
use Rattle.qm_net.specs.Balance.{AreBalances}
use Rattle.qm_net.proofs.Balances.{balanced_by_zeros, balances_none, zeros_by_balanced}
use Rattle.qm_net.proofs.balance.is_block_balanced.Goals as goal

pub loop-k-init : goal.loop-k-init
loop-k-init c = balances_none c.args.lengths.now.net.whole.now.arcs.items c.args.lengths.now.x.now c.args.first _ refl

pub returns : goal.returns
returns c =
    let lengths = c.args.lengths.now in
    let end : c.loop-k.k ≡ length lengths.net.whole.now.arcs.items = omega (arith, lengths.all.count) in
    let are : AreBalances lengths.net.whole.now.arcs.items lengths.x.now c.args.first
    (length lengths.net.whole.now.arcs.items) c.loop-k.balances = rw (sym end) c.loop-k.invariant in (
      λ on. balanced_by_zeros lengths.net.whole.now.arcs.items lengths.x.now c.args.first c.loop-k.balances are
          (sym c.are_zero.ensures ∙ on),
      λ balanced. c.are_zero.ensures ∙ zeros_by_balanced lengths.net.whole.now.arcs.items lengths.x.now c.args.first
          c.loop-k.balances are balanced,
    )
