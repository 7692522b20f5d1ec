use Rattle.qm_tour.proofs.Mended.{leaves_kept, node_mended, whole}
use Rattle.{std.proofs.Common.arith, std.proofs.Common.subst, std.proofs.Common.sym, qm_tour.specs.Trees.IsLeastBelow}
use Rattle.qm_tour.proofs.tour.settle.Goals as goal

pub returns-then-keys-node-clause-tree : goal.returns-then-keys-node-clause-tree
returns-then-keys-node-clause-tree c = whole c.loop-node.invariant.tree (λ _ _.
    subst (IsLeastBelow c.loop-node.keys c.loop-node.node) (sym c.if-keys-node.true) c.least_below-least.ensures)

pub loop-node-preserved : goal.loop-node-preserved
loop-node-preserved c = record {
  low = omega (arith, c.loop-node.invariant.low, c.loop-node-test.true);
  tree = node_mended c.loop-node.invariant.tree c.least_below-least.ensures c.loop-node-test.true
      c.loop-node.invariant.low;
  leaves = leaves_kept c.least_below-least.result c.loop-node.invariant.leaves c.loop-node.invariant.low;
}

pub returns-clause-tree : goal.returns-clause-tree
returns-clause-tree c = whole c.loop-node.invariant.tree (λ root _. absurd (omega (arith, c.loop-node-test.false)))
