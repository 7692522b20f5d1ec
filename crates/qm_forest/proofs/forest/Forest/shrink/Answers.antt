use Rattle.std.proofs.Common.{rules, ◌*◌, arith}
use Rattle.forest_laws.proofs.{Levels.level_few, Grows.outer_named}
use Rattle.qm_forest.proofs.{Shrinkings.Closing, Shrinkings.tops_laid, Shrinkings.free_ring, Shrinkings.shrunk_tables}
use Rattle.qm_forest.proofs.{MateRounds.shrinks, forest.Forest.shrink.Goals.After-fork-fork}
use Rattle.qm_forest.proofs.forest.Forest.shrink.Goals as goal

-- The edge closes a cycle.
closing : (c : After-fork-fork) → Closing c.args.g.now.graph c.args.self.now (2 * c.args.e) c.fork-fork.result.top
    c.fork-fork.result.left c.fork-fork.result.right
closing c = assumption (
  shrinks c.args.g.now.small c.requires.valid.valid.feasible _ c.requires.edge c.requires.kind,
  rw (c.outermost-a.ensures.value, c.near.ensures, c.far_blossom-c.ensures.value) at c.fork-fork.ensures.meeting,
)

pub lay_ring-requires : goal.lay_ring-requires
lay_ring-requires c =
    let it = closing (goal.at.lay_ring-requires c).After-fork-fork in
    assumption (outer_named it.outer_a, outer_named it.outer_c)

pub overflow_add-fork : goal.overflow_add-fork
overflow_add-fork c = omega (arith, level_few)

pub overflow_add-fork-2 : goal.overflow_add-fork-2
overflow_add-fork-2 c = omega (arith, level_few)

pub close_ring-requires : goal.close_ring-requires
close_ring-requires c = search (rules, closing, tops_laid, free_ring)

pub returns : goal.returns
returns c =
    let it = shrunk_tables (closing (goal.at.returns c).After-fork-fork) c.lay_ring.ensures.seen c.lay_ring.ensures.same
    c.mate-mate.ensures c.close_ring.ensures in
    record { changed = it.0; valid = it.1 }
