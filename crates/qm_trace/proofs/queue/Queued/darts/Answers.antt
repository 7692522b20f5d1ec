use Rattle.motion_laws.proofs.Marks.{among_at}

pub bounds-self-r : Rattle.qm_trace.proofs.queue.Queued.darts.Goals.bounds-self-r
bounds-self-r c = c.args.self.now.low _ (among_at c.args.self.now.queue.now c.loop-r.r-index c.loop-r-test.true)
