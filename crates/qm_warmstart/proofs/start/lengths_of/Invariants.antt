use Rattle.std.proofs.Common.{◌≡◌, length}

abbrev pub invariant-loop-k : Rattle.qm_warmstart.proofs.start.lengths_of.Given.invariant-loop-k
invariant-loop-k l = length l.lengths.items ≡ length l.chains.net.whole.now.arcs.items
