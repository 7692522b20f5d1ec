use Rattle.std.proofs.Common.{◌<◌, length, arith}
use Rattle.{search_laws.proofs.Stepped.edge_step, qm_match.proofs.Chains.neither}
use Rattle.qm_match.proofs.search.Search.step.Goals as goal

pub step_along-requires : goal.step_along-requires
step_along-requires c =
    let low : c.args.leaf < length c.args.g.now.graph.edges = omega (arith, c.edge_count-edges.ensures.value) in
    let kind = neither _ (edge_step c.requires.way.made.small.lawful c.args.leaf c.requires.way.valid.valid low
    c.requires.here c.requires.few) in
    record { way = c.requires.way; edge = low; some = kind.0; step = kind.1 }
