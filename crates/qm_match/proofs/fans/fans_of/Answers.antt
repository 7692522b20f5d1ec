use Rattle.std.proofs.Common.{rules, ◌≡◌, ◌+◌, ◌*◌, ◌<◌, ◌∙◌, length, refl, sym, ap, arith}
use Rattle.{def_matching.specs.declared.weighted.WEdge.WEdge, forest_laws.proofs.Bounds.dart_near}
use Rattle.{forest_laws.proofs.Bounds.near_odd, qm_match.proofs.Chains.put_more}

pub loop-e-preserved : Rattle.qm_match.proofs.fans.fans_of.Goals.loop-e-preserved
loop-e-preserved c =
    let low : c.loop-e.e < length c.args.g.now.graph.edges = omega (arith, c.edge_count-e-end.ensures.value) in
    let first = put_more c.loop-e.invariant c.edge-edge.ensures.ends.0 (omega (arith, low)) (search rules)
    c.put.ensures.next c.put.ensures.first in
    let second = put_more first c.edge-edge.ensures.ends.1 (omega (arith, low)) (search rules)
    c.put-in-loop-e.ensures.next c.put-in-loop-e.ensures.first in
    grind arith
