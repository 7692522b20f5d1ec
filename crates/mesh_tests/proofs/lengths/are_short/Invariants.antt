use Rattle.std.proofs.Common.{◌<◌, ◌≤◌, ℕ}
use Rattle.{def_flow.specs.declared.limits.TheConstants.MAX_LENGTH, def_remesh.specs.NewPoints.lengths_in}

abbrev pub invariant-loop-length : Rattle.mesh_tests.proofs.lengths.are_short.Given.invariant-loop-length
invariant-loop-length l = record {
  some : (arc : ℕ) → arc < l.length-index → 0 < lengths_in l.lengths arc;
  bounded : (arc : ℕ) → arc < l.length-index → lengths_in l.lengths arc ≤ MAX_LENGTH;
}
