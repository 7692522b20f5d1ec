use Rattle.{std.proofs.Common.ℕ, std.proofs.Common.◌<◌, std.proofs.Common.get_or, qm_mesh.specs.Turns.IsSeen}

-- The darts so far are marked.
abbrev pub invariant-loop-d : Rattle.qm_mesh.proofs.one_fan.are_seen.Given.invariant-loop-d
invariant-loop-d l = (t : ℕ) → t < l.d-index → IsSeen l.seen (get_or l.fan t 0)
