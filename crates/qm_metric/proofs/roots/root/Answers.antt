-- The root is the one that is computed digit by digit.
use Rattle.qm_metric.proofs.StartLaws.{root_law}
use Rattle.qm_metric.proofs.roots.root.Goals as goal

pub returns-in-Some-clause-value : goal.returns-in-Some-clause-value
returns-in-Some-clause-value c = (root_law c.args.n c.ranges.n.fits).1 _ c.in-Some.ensures

pub returns-in-None-clause-value : goal.returns-in-None-clause-value
returns-in-None-clause-value c = (root_law c.args.n c.ranges.n.fits).1 _ (record {
  low = c.isqrt.ensures.square_le;
  high = c.isqrt.ensures.next_square_gt;
})
