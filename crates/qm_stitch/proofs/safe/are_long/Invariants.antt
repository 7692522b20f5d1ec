use Rattle.{std.proofs.Common.◌<◌, std.proofs.Common.◌≤◌, std.proofs.Common.ℕ, def_remesh.specs.NewPoints.lengths_in}

abbrev pub invariant-loop-length : Rattle.qm_stitch.proofs.safe.are_long.Given.invariant-loop-length
invariant-loop-length l = (arc : ℕ) → arc < l.length-index → 3 ≤ lengths_in l.lengths arc
