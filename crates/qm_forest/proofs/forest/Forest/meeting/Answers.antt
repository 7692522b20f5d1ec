use Rattle.std.proofs.Common.{rules, ◌≡◌, ◌∙◌, sym, arith}
use Rattle.def_forest.specs.{Darts.darts_of, Tables.forest_of}
use Rattle.qm_forest.proofs.Increases.{climbed, climbed_nearer, climbed_on, root_on_both}
use Rattle.{forest_laws.specs.Climbing.level_of, forest_laws.proofs.Levels.level_few}
use Rattle.qm_forest.proofs.forest.Forest.meeting.Goals as goal

pub returns-in-Some-clause-both : goal.returns-in-Some-clause-both
returns-in-Some-clause-both c =
    let first = c.loop-right.invariant.climbed in
    let second = c.steps_to.ensures c.in-Some.right c.in-Some.is in
    record { met = sym first.way ∙ second.way; left_low = first.low; right_low = second.low }

pub overflow_add-left : goal.overflow_add-left
overflow_add-left c = search (rules, level_few)

pub loop-right-smaller : goal.loop-right-smaller
loop-right-smaller c = search (rules, climbed_nearer, climbed)

pub loop-right-preserved : goal.loop-right-preserved
loop-right-preserved c = record {
  climbed = climbed_on c.args.g.now.small c.requires.valid c.requires.first c.climb-next.result.1
      c.loop-right.invariant.climbed c.climb-next.ensures.way (omega (arith, c.climb-next.ensures.steps));
  some = omega (arith, c.loop-right.invariant.some, c.saturating_mul-reach.ensures);
}

pub returns-clause-both : goal.returns-clause-both
returns-clause-both c =
    let whole : c.climb.result.1 ≡ level_of (darts_of c.args.g.now.graph) (forest_of c.args.self.now) c.args.c =
    omega (arith, level_few (darts_of c.args.g.now.graph) (forest_of c.args.self.now) c.args.c) in
    search (rules, root_on_both)
