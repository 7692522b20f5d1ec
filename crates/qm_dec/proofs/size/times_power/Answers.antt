use Rattle.{std.proofs.Common.rules, std.proofs.Common.◌-◌, qm_dec.proofs.Digits.grown_more}

pub loop-power-preserved : Rattle.qm_dec.proofs.size.times_power.Goals.loop-power-preserved
loop-power-preserved c = search (rules, grown_more)
