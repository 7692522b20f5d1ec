use Rattle.{qm_stitch.proofs.Grids.counts}
use Rattle.qm_stitch.proofs.SafeLengths.{safe_undoubled, shapes_kept}
use Rattle.qm_stitch.proofs.planning.plan.Goals as goal

pub returns-then-are_safe-clause-undoubled : goal.returns-then-are_safe-clause-undoubled
returns-then-are_safe-clause-undoubled c = safe_undoubled _ _ (omega counts) c.requires.layout c.requires.lengths
    (c.are_safe.ensures.0 c.if-are_safe.true)

pub returns-then-are_safe-clause-shape : goal.returns-then-are_safe-clause-shape
returns-then-are_safe-clause-shape c =
    shapes_kept _ _ c.requires.lengths (returns-then-are_safe-clause-undoubled c)

pub returns-clause-undoubled : goal.returns-clause-undoubled
returns-clause-undoubled c =
    rw (← c.in_ok-numbering.ensures.lengths) (rw (← c.numbering.view_is) c.in_ok-check_edges.ensures.undoubled)

pub returns-clause-shape : goal.returns-clause-shape
returns-clause-shape c = shapes_kept _ _ c.requires.lengths (returns-clause-undoubled c)
