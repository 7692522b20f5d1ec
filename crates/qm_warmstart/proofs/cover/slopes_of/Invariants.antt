use Rattle.std.proofs.Common.{◌≡◌, length}

abbrev pub invariant-loop-chain : Rattle.qm_warmstart.proofs.cover.slopes_of.Given.invariant-loop-chain
invariant-loop-chain l = length l.slopes.items ≡ l.chain-index
