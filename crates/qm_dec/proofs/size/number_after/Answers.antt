use Rattle.{std.proofs.Common.rules, std.proofs.Common.◌-◌, qm_dec.proofs.Digits.after_more}

pub loop-digit-preserved : Rattle.qm_dec.proofs.size.number_after.Goals.loop-digit-preserved
loop-digit-preserved c = search (rules, after_more)
