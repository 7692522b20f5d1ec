use Rattle.std.proofs.{lemmas.Bool.cases_lt, Common.rules, Common.inl, Common.inr, Common.arith}

pub loop-b-preserved : Rattle.qm_forest.proofs.forest.Forest.greatest_weight.Goals.loop-b-preserved
loop-b-preserved c = record {
  above = λ b l. grind arith;
  attained = elim (cases_lt c.loop-b.most c.weight_size.result) [ inl lt ↦ search rules | inr ge ↦ search rules ];
}
