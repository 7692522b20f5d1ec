use Rattle.{def_mesh.specs.Darts.darts, qm_sing.specs.Walks.leader, qm_sing.proofs.Walking.IsWalk}

-- The walk stands as many steps back, and has not met d again.
abbrev pub invariant-back : Rattle.qm_sing.proofs.lines.first_of.Given.invariant-back
invariant-back l = IsWalk (leader l.mesh) (darts l.mesh) l.d l.counter l.first
