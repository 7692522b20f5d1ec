use Rattle.{def_io.specs.Lines.lines_of, qm_marks.proofs.LineMarks.IsCounted, std.proofs.Common.◌-◌}
use Rattle.qm_marks.proofs.lines.count_vertex_lines.Given as goal

abbrev pub invariant-loop-i : goal.invariant-loop-i
invariant-loop-i l = IsCounted (lines_of l.lines) l.fn.first l.i l.after l.count

abbrev pub decreases-loop-i : goal.decreases-loop-i
decreases-loop-i l = l.after - l.i
