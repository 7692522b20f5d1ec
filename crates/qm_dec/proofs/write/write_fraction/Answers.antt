use Rattle.{std.proofs.Common.rules, qm_dec.proofs.ReadBack.trimmed_short}

pub put-requires : Rattle.qm_dec.proofs.write.write_fraction.Goals.put-requires
put-requires c = search (rules, trimmed_short)
