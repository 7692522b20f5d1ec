use Rattle.std.proofs.Common.{◌≡◌, ℕ, ◌<◌, ◌≤◌, ◌⊎◌}
use Rattle.{std.specs.Prelude.unsigned_abs, def_forest.specs.Tables.forest_of}

abbrev pub invariant-loop-b : Rattle.qm_forest.proofs.forest.Forest.greatest_weight.Given.invariant-loop-b
invariant-loop-b l = record {
  above : (b : ℕ) → b < l.b → unsigned_abs ((forest_of l.self).weight b) ≤ l.most;
  attained : (l.most ≡ 0) ⊎ ((b : ℕ) × (unsigned_abs ((forest_of l.self).weight b) ≡ l.most));
}
