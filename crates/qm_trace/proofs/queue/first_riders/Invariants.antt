use Rattle.{std.proofs.Common.◌≡◌, std.proofs.Common.map, std.proofs.Common.take, def_cut.specs.Motion.begun}

abbrev pub invariant-loop-d : Rattle.qm_trace.proofs.queue.first_riders.Given.invariant-loop-d
invariant-loop-d l = l.riders.items ≡ map begun (take l.d-index l.starts)
