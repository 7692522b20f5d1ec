use Rattle.std.proofs.Common.{◌+◌, ◌-◌, get_or}
use Rattle.{def_forest.specs.Tables.forest_of, qm_forest.specs.Ties.IsMeeting}
use Rattle.qm_forest.proofs.forest.Forest.load_within.Given as goal

abbrev pub invariant-loop-x : goal.invariant-loop-x
invariant-loop-x l = IsMeeting l.self l.u l.v l.x l.y l.load

abbrev pub decreases-loop-x : goal.decreases-loop-x
decreases-loop-x l = (get_or l.self.rank ((forest_of l.self).out l.u) 0 + get_or l.self.rank
    ((forest_of l.self).out l.u) 0) - (get_or l.self.rank l.x 0 + get_or l.self.rank l.y 0)
