use Rattle.{std.proofs.Common.arith, qm_tour.proofs.Mended.low_more, qm_tour.proofs.Mended.one_more}

pub loop-k-preserved : Rattle.qm_tour.proofs.tour.least_below.Goals.loop-k-preserved
loop-k-preserved c = record {
  low = low_more c.args.keys.now c.loop-k.invariant.low c.min-least.ensures;
  from = one_more c.args.keys.now c.loop-k.invariant.from (omega (arith, c.loop-k.auto.k)) c.min-least.ensures;
}
