use Rattle.std.proofs.{Common.rules, Common.sym, Common.arith, lemmas.List.FromFn.map-range_with_len_more}
use Rattle.{std.proofs.lemmas.List.FromFn.length-map-range_with_len, def_layout.specs.Nodes.is_node}
use Rattle.qm_tmesh.proofs.nodes.node_marks.Goals as goal

pub loop-v-preserved : goal.loop-v-preserved
loop-v-preserved c = rw (c.in_ok-push.ensures.items, c.loop-v.invariant, c.is_node.ensures)
    (sym (map-range_with_len_more (is_node c.args.mesh.now c.args.cut.now) 0 c.loop-v.v c.loop-v.v (omega arith)))

pub returns-clause-small : goal.returns-clause-small
returns-clause-small c = search (rules, length-map-range_with_len)
