use Rattle.{std.proofs.Common.rules, qm_marks.proofs.EdgeMarks.mark_both, qm_marks.proofs.EdgeMarks.mark_none}
use Rattle.qm_marks.proofs.chain.mark.Goals as goal

pub returns-in-Some-clause-marks : goal.returns-in-Some-clause-marks
returns-in-Some-clause-marks c = search (rules, mark_both)

pub returns-in_default-clause-marks : goal.returns-in_default-clause-marks
returns-in_default-clause-marks c = search (rules, mark_none)
