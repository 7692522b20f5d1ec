use Rattle.qm_mesh.specs.Tables.{HoldDarts}

-- The fans hold the darts before d.
abbrev pub invariant-loop-d : Rattle.qm_mesh.proofs.fans.gather.Given.invariant-loop-d
invariant-loop-d l = HoldDarts l.quads.faces.now l.quads.vertices l.d l.fans.items
