use Rattle.{def_io.specs.Lines.lines_of, qm_marks.proofs.LineMarks.IsAtLine, std.proofs.Common.◌-◌}
use Rattle.qm_marks.proofs.lines.read_marks.Given as goal

abbrev pub invariant-loop-i : goal.invariant-loop-i
invariant-loop-i l = IsAtLine l.soup l.mesh (lines_of l.lines) l.fn.first l.i l.after l.reader

abbrev pub decreases-loop-i : goal.decreases-loop-i
decreases-loop-i l = l.after - l.i
