use Rattle.{std.proofs.Common.rules, motion_laws.proofs.Marks.among_at, qm_trace.proofs.Tellings.marks_more}
use Rattle.qm_feature.proofs.tracing.mark_starts.Goals as goal

pub bounds-begun-d : goal.bounds-begun-d
bounds-begun-d c = search (rules, c.requires, among_at)

pub loop-d-preserved : goal.loop-d-preserved
loop-d-preserved c = search (rules, c.requires, marks_more, among_at)
