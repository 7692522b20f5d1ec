use Rattle.std.proofs.Common.{◌≡◌, ◌≤◌, length, take}
use Rattle.{std.specs.List.filter, def_layout.specs.Nodes.is_lone_before}

-- the lone darts so far are counted
abbrev pub invariant-loop-d : Rattle.qm_tmesh.proofs.nodes.Meeting.arriving.Given.invariant-loop-d
invariant-loop-d l = (l.count ≡ length (filter (is_lone_before l.self.mesh.now l.self.cut.now)
    (take l.d-index l.self.fan.now))) × (l.count ≤ l.d-index)
