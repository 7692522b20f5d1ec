use Rattle.std.proofs.Common.{◌<◌, ap, length, refl, arith}
use Rattle.{def_mesh.specs.Darts.darts, def_cut.specs.FullCut.is_on, feature_laws.proofs.Exists.led_more}

pub loop-d-preserved : Rattle.qm_feature.proofs.straightening.lead_all.Goals.loop-d-preserved
loop-d-preserved c =
    let low : c.loop-d.d < darts c.args.mesh.now = omega (arith, c.loop-d-test.true, ap length c.faces.ensures.value) in
    led_more c.args.mesh.now c.args.sources.now c.loop-d.led c.lead_if.new.led c.loop-d.d
    (is_on c.args.sources.now c.loop-d.d) low refl c.loop-d.invariant c.lead_if.ensures.on c.lead_if.ensures.off
