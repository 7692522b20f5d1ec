use Rattle.std.proofs.Common.{◌∙◌, sym, arith}
use Rattle.qm_forest.proofs.Increases.{rise_dart, far_way, climbed}
use Rattle.qm_forest.proofs.forest.Forest.steps_to.Goals as goal

pub far_blossom-at-requires : goal.far_blossom-at-requires
far_blossom-at-requires c = rise_dart c.args.g.now.small c.requires.valid _ (climbed c.args.g.now.small c.requires.valid
    c.requires.named c.loop-at.invariant).0 _ (sym c.rise.ensures.value ∙ c.in-Some.is)

pub loop-at-smaller : goal.loop-at-smaller
loop-at-smaller c =
    let on = far_way c.args.g.now.small c.requires.valid c.requires.named _ c.loop-at.invariant
    (sym c.rise.ensures.value ∙ c.in-Some.is) c.far_blossom-at.ensures.value in
    omega (arith, on.0)

pub loop-at-preserved : goal.loop-at-preserved
loop-at-preserved c = (far_way c.args.g.now.small c.requires.valid c.requires.named _ c.loop-at.invariant
    (sym c.rise.ensures.value ∙ c.in-Some.is) c.far_blossom-at.ensures.value).1
