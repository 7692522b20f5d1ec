use Rattle.{std.proofs.Common.◌<◌, qm_tour.specs.Trees.IsTreeBut, qm_tour.specs.Trees.HasSameLeaves}
use Rattle.qm_tour.proofs.tour.settle.Given as goal

abbrev pub invariant-loop-node : goal.invariant-loop-node
invariant-loop-node l = record {
  low : l.node < l.first;
  tree : IsTreeBut l.first l.node l.keys;
  leaves : HasSameLeaves l.first l.fn.keys l.keys;
}

abbrev pub decreases-loop-node : goal.decreases-loop-node
decreases-loop-node l = l.node
