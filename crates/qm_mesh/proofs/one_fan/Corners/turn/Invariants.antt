use Rattle.{std.proofs.Common.◌≡◌, std.proofs.Common.not, std.specs.List.count_by, qm_mesh.proofs.Marks.IsWalkSoFar}
use Rattle.qm_mesh.proofs.one_fan.Corners.turn.Given as goal

abbrev pub invariant-loop-next : goal.invariant-loop-next
invariant-loop-next l = (l.self.twins.now ≡ l.initial.self.twins.now)
    × IsWalkSoFar l.left l.initial.self.twins.now l.start l.at l.initial.self.seen.items l.self.seen.items

abbrev pub decreases-loop-next : goal.decreases-loop-next
decreases-loop-next l = count_by not l.self.seen.items
