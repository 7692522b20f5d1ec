use Rattle.{std.proofs.Common.◌≡◌, qm_mesh.proofs.OneFan.AreChecked}

-- The vertices before v have one fan each, and only their corners are marked.
abbrev pub invariant-loop-v : Rattle.qm_mesh.proofs.one_fan.check_fans.Given.invariant-loop-v
invariant-loop-v l = (l.corners.twins.now ≡ l.twins) × AreChecked l.faces l.v l.corners.seen.items
