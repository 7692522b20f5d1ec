use Rattle.{std.proofs.Common.◌≡◌, qm_mesh.specs.Pairs.IsPairing}

-- All vertices below v have been taken.
abbrev pub invariant-loop-v : Rattle.qm_mesh.proofs.twins.pair_all.Given.invariant-loop-v
invariant-loop-v l = (l.ends.quads ≡ l.initial.ends.quads)
    × IsPairing l.initial.ends.quads.faces.now l.v l.twins l.twice
