use Rattle.qm_forest.{specs.Needs.ReachesMatched, proofs.MateRounds.grows, proofs.OnWays.valid_grown}
use Rattle.qm_forest.{proofs.OnWays.is_some_ne, proofs.forest.Forest.grow.Goals.After-outer_dart-d}
use Rattle.qm_forest.proofs.forest.Forest.grow.Goals as goal

-- The dart reaches a matched blossom.
reach : (c : After-outer_dart-d) → ReachesMatched c.args.g.now.graph c.args.self.now c.outer_dart-d.result
reach c =
    let it = grows c.args.g.now.small c.requires.valid.valid.feasible c.args.e c.requires.edge c.requires.kind in
    rw c.outer_dart-d.ensures.value (record { valid = c.requires.valid; reaches = it.0; matched = is_some_ne _ it.1 })

pub grow_along-requires : goal.grow_along-requires
grow_along-requires c = reach (goal.at.grow_along-requires c).After-outer_dart-d

pub returns-clause-valid : goal.returns-clause-valid
returns-clause-valid c = valid_grown _ c.args.g.now.small c.requires.valid c.grow_along.ensures.changed.0
    (reach (goal.at.returns-clause-valid c).After-outer_dart-d).reaches c.grow_along.ensures.changed.1
    c.grow_along.ensures.changed.2 c.grow_along.ensures.hand c.grow_along.ensures.root c.grow_along.ensures.fixed
