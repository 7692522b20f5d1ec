use Rattle.motion_laws.proofs.Marks.{among_at}

pub to-requires : Rattle.qm_trace.proofs.marks.Trail.stand.Goals.to-requires
to-requires c = c.args.self.now.low _ (among_at c.args.self.now.darts.now c.loop-d.d-index c.loop-d-test.true)
