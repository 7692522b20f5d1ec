use Rattle.feature_laws.proofs.Exists.{lead_more}

pub loop-next-preserved : Rattle.qm_feature.proofs.straightening.lead.Goals.loop-next-preserved
loop-next-preserved c = lead_more c.args.mesh.now c.args.d c.args.led.now c.loop-next.led c.loop-next.at c.in-Some.next
    c.requires.long c.loop-next.invariant c.in-Some.ensures
