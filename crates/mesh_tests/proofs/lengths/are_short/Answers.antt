use Rattle.std.proofs.{Common.length, Common.inl, Common.inr, Common.arith, lemmas.Bool.cases_lt}
use Rattle.std.proofs.{lemmas.List.get_or_past}

pub returns-clause-bounded : Rattle.mesh_tests.proofs.lengths.are_short.Goals.returns-clause-bounded
returns-clause-bounded c on arc = elim (cases_lt arc (length c.args.lengths.now)) [
  | inl low ↦ c.loop-length.invariant.bounded arc (omega (arith, low, c.loop-length-test.false))
  | inr past ↦ omega (arith, get_or_past c.args.lengths.now arc 0 past)
]
