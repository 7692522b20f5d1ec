use Rattle.std.proofs.Common.{◌≡◌, length}

abbrev pub invariant-loop-chain : Rattle.qm_warmstart.proofs.flow.first_flow.Given.invariant-loop-chain
invariant-loop-chain l = length l.lengths.items ≡ length l.cover.ways.items
