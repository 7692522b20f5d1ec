use Rattle.qm_mesh.proofs.Marks.{ArePairedBefore}

-- The darts that arrive before this corner's have their partners, and no other changed.
abbrev pub invariant-loop-d : Rattle.qm_mesh.proofs.twins.Ends.pair_at.Given.invariant-loop-d
invariant-loop-d l = ArePairedBefore l.self.quads.faces.now l.v l.fan l.d-index l.initial.twins l.twins
