use Rattle.{std.proofs.Common.rules, qm_trace.proofs.Tellings.any_range_more, qm_trace.proofs.Tellings.or_shift}

pub loop-d-preserved : Rattle.qm_feature.proofs.closed.Homes.mark_rings.Goals.loop-d-preserved
loop-d-preserved c v = search (rules, any_range_more, or_shift)
