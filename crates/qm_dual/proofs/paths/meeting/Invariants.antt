use Rattle.std.proofs.Common.{◌+◌, ◌≤◌, length}
use Rattle.qm_dual.specs.Nest.{HaveSameSets, left}
use Rattle.qm_dual.proofs.paths.meeting.Given as goal

abbrev pub invariant-loop-first : goal.invariant-loop-first
invariant-loop-first l = record {
  first_low : l.first ≤ length l.d.whole.now.z.items;
  second_low : l.second ≤ length l.d.whole.now.z.items;
  same : HaveSameSets l.d.n (length l.d.whole.now.z.items) l.d.whole.now.up.items l.a l.b l.first l.second;
}

abbrev pub decreases-loop-first : goal.decreases-loop-first
decreases-loop-first l = left (length l.d.whole.now.z.items) l.first + left (length l.d.whole.now.z.items) l.second
