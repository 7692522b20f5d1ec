use Rattle.std.proofs.Common.{◌≡◌, ◌≤◌, length, take}
use Rattle.{std.specs.List.filter, def_cut.specs.FullCut.is_on}

-- the cut darts so far are counted
abbrev pub invariant-loop-d : Rattle.qm_tmesh.proofs.nodes.Meeting.leaving.Given.invariant-loop-d
invariant-loop-d l = (l.count ≡ length (filter (is_on l.self.cut.now) (take l.d-index l.self.fan.now)))
    × (l.count ≤ l.d-index)
