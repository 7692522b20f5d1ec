use Rattle.{std.proofs.Common.rules, qm_feature.proofs.Rings.least_more}

pub loop-d-preserved : Rattle.qm_feature.proofs.closed.lower.Goals.loop-d-preserved
loop-d-preserved c = search (rules, least_more)
