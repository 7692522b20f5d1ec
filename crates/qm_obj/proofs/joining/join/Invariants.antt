use Rattle.{def_io.specs.Lines.lines_of, qm_obj.proofs.JoinLemmas.IsJoining, std.proofs.Common.◌-◌}
use Rattle.qm_obj.proofs.joining.join.Given as goal

abbrev pub invariant-loop-next : goal.invariant-loop-next
invariant-loop-next l = IsJoining (lines_of l.rest.lines.now) l.rest.first l.next l.rest.after l.bytes.items

abbrev pub decreases-loop-next : goal.decreases-loop-next
decreases-loop-next l = l.rest.after - l.next
