use Rattle.{std.proofs.Common.◌≡◌, std.proofs.Common.map, std.proofs.Common.take, qm_trace.specs.Tables.dart_of}

abbrev pub invariant-loop-r : Rattle.qm_trace.proofs.queue.Queued.darts.Given.invariant-loop-r
invariant-loop-r l = l.ridden.items ≡ map (dart_of l.self.riders.now) (take l.r-index l.self.queue.now)
