use Rattle.{std.proofs.Common.◌≡◌, std.specs.List.range_with_len}

abbrev pub invariant-loop-r : Rattle.qm_trace.proofs.queue.everyone.Given.invariant-loop-r
invariant-loop-r l = l.queue.items ≡ range_with_len 0 l.r
