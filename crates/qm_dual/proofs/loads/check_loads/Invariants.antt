use Rattle.std.proofs.Common.{◌≡◌, ℕ, ◌<◌, false, pos, ◌*ℤ◌, int_lt}
use Rattle.def_matching.specs.{Matching.edge_at, Dual.dual, Dual.load}

abbrev pub invariant-loop-k : Rattle.qm_dual.proofs.loads.check_loads.Given.invariant-loop-k
invariant-loop-k l =
    let g = l.judged.g.now.graph in
    (j : ℕ) → j < l.k
    → int_lt (pos 2 *ℤ (edge_at g j).cost) (load g.n (dual l.judged.d.whole.now) (edge_at g j)) ≡ false
