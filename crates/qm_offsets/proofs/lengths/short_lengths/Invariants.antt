use Rattle.std.proofs.Common.{◌≡◌, take}

abbrev pub invariant-loop-length : Rattle.qm_offsets.proofs.lengths.short_lengths.Given.invariant-loop-length
invariant-loop-length l = l.short.items ≡ take l.length-index l.lengths
