use Rattle.std.proofs.Common.{◌≡◌, ◌<◌, ℕ, length, get_or}
use Rattle.qm_obj.specs.Kept.{chosen, IsKept}

abbrev pub invariant-loop-k : Rattle.qm_obj.proofs.used.keep_marked.Given.invariant-loop-k
invariant-loop-k l = record {
  kept : IsKept l.marks l.initial.positions.items l.positions.items l.names.items l.k;
  count : length l.vertices.items ≡ l.k;
  vertices : (j : ℕ) → j < l.k → get_or l.vertices.items j 0 ≡ length (chosen l.marks j);
}
