use Rattle.{std.proofs.Common.◌-◌, def_io.specs.Lines.lines_of, qm_obj.proofs.Groups.IsAt}
use Rattle.qm_obj.proofs.read.read_obj.Given as goal

abbrev pub invariant-loop-i : goal.invariant-loop-i
invariant-loop-i l = IsAt (lines_of l.lines) l.fn.first l.i l.after l.reader.positions.items l.reader.faces.items
    l.reader.lines.items

abbrev pub decreases-loop-i : goal.decreases-loop-i
decreases-loop-i l = l.after - l.i
