use Rattle.{std.proofs.Common.◌+◌, std.proofs.Common.◌<◌, std.proofs.Common.ℕ, def_remesh.specs.Rises.rise_at}

abbrev pub invariant-loop-k : Rattle.qm_stitch.proofs.rises.are_ordered.Given.invariant-loop-k
invariant-loop-k l = record {
  some : 0 < l.k;
  ordered : (j : ℕ) → j + 1 < l.k → (rise_at l.rises j).arc < (rise_at l.rises (j + 1)).arc;
}
