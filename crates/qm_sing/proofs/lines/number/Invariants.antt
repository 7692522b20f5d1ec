use Rattle.qm_sing.specs.Walks.{AreTold, walked}
use Rattle.{def_mesh.specs.Darts.darts, def_runs.specs.Runs.follower, qm_sing.proofs.Walking.IsWalk}

-- The walk stands at this place, and the darts before it are told.
abbrev pub invariant-loop-place : Rattle.qm_sing.proofs.lines.number.Given.invariant-loop-place
invariant-loop-place l = record {
  walk : IsWalk (follower l.mesh) (darts l.mesh) l.first l.place l.dart;
  told : AreTold (walked (follower l.mesh) l.first) l.place l.r l.initial.run l.run l.initial.at l.at;
}
