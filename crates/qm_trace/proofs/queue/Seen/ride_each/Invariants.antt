use Rattle.{std.proofs.Common.take, qm_trace.specs.Tables.AreRode}

-- The riders before this one have ridden.
abbrev pub invariant-loop-r : Rattle.qm_trace.proofs.queue.Seen.ride_each.Given.invariant-loop-r
invariant-loop-r l = AreRode l.self.mesh.now l.self.sight.now.stood.items l.self.sight.now.taken.items
    (take l.r-index l.queue) l.initial.riders l.riders
