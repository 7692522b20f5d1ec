use Rattle.std.proofs.{Common.rules, Common.arith, lemmas.Int.ints}
use Rattle.qm_forest.proofs.Meeting.{turn_meets, turn_nearer}
use Rattle.qm_forest.proofs.forest.Forest.load_within.Goals as goal

pub loop-x-smaller : goal.loop-x-smaller
loop-x-smaller c = search (rules, turn_nearer)

pub loop-x-preserved : goal.loop-x-preserved
loop-x-preserved c = turn_meets c.requires.ends.valid c.base_at-load.ensures.climb c.base_at-load.ensures.few
    c.base_at-load.ensures.small c.loop-x.invariant c.loop-x-test.true _ _ _
    c.by_rank-low.ensures.either c.by_rank-low.ensures.order c.up_at-x.ensures.value c.up_at-x.ensures.low
    (omega (arith, ints, c.loop-x.invariant.small, c.base_at-load.ensures.bound, c.base_at-load.ensures.value))
