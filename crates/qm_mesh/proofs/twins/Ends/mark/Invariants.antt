use Rattle.{std.proofs.Common.◌≡◌, qm_mesh.proofs.Marks.AreMarkedBefore}

-- The darts before this one have been taken.
abbrev pub invariant-loop-d : Rattle.qm_mesh.proofs.twins.Ends.mark.Given.invariant-loop-d
invariant-loop-d l = (l.self.quads ≡ l.initial.self.quads)
    × AreMarkedBefore l.initial.self.quads.faces.now l.v l.fan l.d-index l.self.by_end.items l.twice
