use Rattle.{std.proofs.Common.◌-◌, std.proofs.Common.arith, qm_dual.proofs.Tallies.tallies_low}

pub tally-requires-clause-fits : Rattle.qm_dual.proofs.sizes.count_direct.Goals.tally-requires-clause-fits
tally-requires-clause-fits c = omega (arith, tallies_low c.loop-v.invariant (c.set_around_vertex.result - 1))
