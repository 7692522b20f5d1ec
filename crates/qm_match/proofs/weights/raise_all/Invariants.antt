use Rattle.qm_match.specs.Weights.{MayRise}

abbrev pub invariant-loop-v : Rattle.qm_match.proofs.weights.raise_all.Given.invariant-loop-v
invariant-loop-v l = MayRise l.g.graph l.most l.y
