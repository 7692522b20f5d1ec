use Rattle.std.proofs.Common.{◌≡◌, ◌+◌, ◌-◌, slice_index, ◌∙◌, ap, arith}
use Rattle.qm_dual.specs.Nest.{tally_with}
use Rattle.qm_dual.proofs.Tallies.{tallies_low, tallies_pass, tallies_end}
use Rattle.qm_dual.proofs.sizes.pass_up.Goals as goal

pub tally-requires-clause-fits : goal.tally-requires-clause-fits
tally-requires-clause-fits c = omega (
  arith,
  tallies_low c.loop-k.invariant (c.set_around_set.result - 1),
  tallies_low c.loop-k.invariant c.loop-k.k,
)

pub loop-k-preserved : goal.loop-k-preserved
loop-k-preserved c =
    let d = c.args.d.now in
    let sizes = c.loop-k.sizes in
    let new : c.tally.new.sizes
    ≡ tally_with sizes (slice_index d.whole.now.up.items (d.n + c.loop-k.k)) (slice_index sizes c.loop-k.k) =
    c.tally.ensures ∙ ap (λ e. tally_with sizes e (slice_index sizes c.loop-k.k)) c.set_around_set.ensures.value in
    rw new (tallies_pass d.nest.nested c.loop-k.k sizes (omega (arith, c.loop-k.invariant.count)) c.loop-k.invariant)

pub returns : goal.returns
returns c = tallies_end c.args.d.now.nest.nested c.loop-k.k c.loop-k.sizes (omega (arith, c.loop-k.invariant.count))
    c.loop-k.invariant
