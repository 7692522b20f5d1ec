use Rattle.std.proofs.Common.{rules, ◌∙◌, sym, arith}
use Rattle.qm_forest.proofs.Increases.{rise_dart, root_level, far_way, climbed}
use Rattle.qm_forest.proofs.forest.Forest.climb.Goals as goal

pub far_blossom-at-requires : goal.far_blossom-at-requires
far_blossom-at-requires c = rise_dart c.args.g.now.small c.requires.valid _ (climbed c.args.g.now.small c.requires.valid
    c.requires.named c.loop-d.invariant.climbed).0 _ (sym c.rise.ensures.value ∙ c.in-Some.is)

pub loop-d-smaller : goal.loop-d-smaller
loop-d-smaller c =
    let on = far_way c.args.g.now.small c.requires.valid c.requires.named _ c.loop-d.invariant.climbed
    (sym c.rise.ensures.value ∙ c.in-Some.is) c.far_blossom-at.ensures.value in
    omega (arith, on.0)

pub loop-d-preserved : goal.loop-d-preserved
loop-d-preserved c = record {
  climbed = (far_way c.args.g.now.small c.requires.valid c.requires.named _ c.loop-d.invariant.climbed
      (sym c.rise.ensures.value ∙ c.in-Some.is) c.far_blossom-at.ensures.value).1;
  few = omega (arith, c.loop-d.invariant.few, c.if-count-most.false);
}

pub returns-clause-steps : goal.returns-clause-steps
returns-clause-steps c =
    let at = climbed c.args.g.now.small c.requires.valid c.requires.named c.loop-d.invariant.climbed in
    search (rules, root_level)
