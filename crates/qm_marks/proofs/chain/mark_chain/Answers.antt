use Rattle.std.proofs.Common.{◌+◌, ◌-◌, length, sym, ◌∙◌}
use Rattle.def_marks.specs.Chains.{is_edge, link_at}
use Rattle.qm_marks.proofs.EdgeMarks.{all_not, chain_more}
use Rattle.qm_marks.proofs.chain.mark_chain.Goals as goal

pub returns-then-not-mark_edge-clause-chain : goal.returns-then-not-mark_edge-clause-chain
returns-then-not-mark_edge-clause-chain c = sym
    (all_not (λ k. is_edge c.args.mesh.now (link_at c.args.chain.now k) (link_at c.args.chain.now (k + 1))) (length
    c.args.chain.now - 1) c.loop-k.k c.loop-k-test.true (sym c.mark_edge.ensures.edge ∙ c.if-not-mark_edge.true))

pub loop-k-preserved : goal.loop-k-preserved
loop-k-preserved c = chain_more c.args.mesh.now c.args.chain.now c.args.marks.now c.loop-k.marks c.mark_edge.new.marks
    c.loop-k.k c.loop-k.invariant c.mark_edge.ensures.long (sym c.mark_edge.ensures.edge ∙ c.if-not-mark_edge.false)
    (c.mark_edge.ensures.marks c.if-not-mark_edge.false)
