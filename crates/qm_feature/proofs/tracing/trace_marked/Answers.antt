use Rattle.{std.proofs.Common.rules, feature_laws.proofs.Conforming.marked_law}

pub returns-clause-kept : Rattle.qm_feature.proofs.tracing.trace_marked.Goals.returns-clause-kept
returns-clause-kept c = search (rules, marked_law)
