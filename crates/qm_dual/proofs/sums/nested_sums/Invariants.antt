use Rattle.{std.proofs.Common.◌≤◌, std.proofs.Common.length, def_matching.specs.Dual.dual, qm_dual.specs.Nest.AreSums}
use Rattle.qm_dual.proofs.sums.nested_sums.Given as goal

abbrev pub invariant-loop-k : goal.invariant-loop-k
invariant-loop-k l = record {
  low : l.k ≤ length l.d.whole.now.z.items;
  sums : AreSums l.d.n (dual l.d.whole.now) l.k l.sums.items;
}

abbrev pub decreases-loop-k : goal.decreases-loop-k
decreases-loop-k l = l.k
