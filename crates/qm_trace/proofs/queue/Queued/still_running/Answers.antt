use Rattle.qm_trace.proofs.queue.Queued.still_running.Goals.{then-runs+in_ok-push, else-runs}
use Rattle.{std.proofs.Common.rules, qm_trace.proofs.Tellings.running_more, def_cut.specs.Events.rider_at}
use Rattle.{motion_laws.proofs.Marks.among_at, qm_trace.specs.Tables.is_running}
use Rattle.qm_trace.proofs.queue.Queued.still_running.Goals as goal

pub bounds-self-r : goal.bounds-self-r
bounds-self-r c = c.args.self.now.low _ (among_at c.args.self.now.queue.now c.loop-r.r-index c.loop-r-test.true)

pub loop-r-preserved : goal.loop-r-preserved
loop-r-preserved c =
    let more = running_more (λ r. is_running (rider_at c.args.self.now.riders.now r).stop) _ _ c.loop-r-test.true in
    elim c.if-runs.branch [ then-runs+in_ok-push w ↦ search rules | else-runs w ↦ search rules ]
