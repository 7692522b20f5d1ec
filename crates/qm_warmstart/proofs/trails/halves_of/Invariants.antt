use Rattle.std.proofs.Common.{◌≡◌, length}

abbrev pub invariant-loop-chain : Rattle.qm_warmstart.proofs.trails.halves_of.Given.invariant-loop-chain
invariant-loop-chain l = length l.missing.items ≡ l.chain
