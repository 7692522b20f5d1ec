use Rattle.std.proofs.Common.{◌≡◌, take}
use Rattle.{std.specs.List.filter, def_cut.specs.Events.rider_at, qm_trace.specs.Tables.is_running}

abbrev pub invariant-loop-r : Rattle.qm_trace.proofs.queue.Queued.still_running.Given.invariant-loop-r
invariant-loop-r l = l.running.items
    ≡ filter (λ r. is_running (rider_at l.self.riders.now r).stop) (take l.r-index l.self.queue.now)
