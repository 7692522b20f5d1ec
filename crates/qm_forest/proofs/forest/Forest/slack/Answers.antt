use Rattle.std.proofs.{Common.ap, Common.arith, lemmas.Int.ints}
use Rattle.def_matching.specs.declared.weighted.WEdge.{WEdge}
use Rattle.def_forest.specs.{Forests.weight_between, Tables.forest_of}

pub returns : Rattle.qm_forest.proofs.forest.Forest.slack.Goals.returns
returns c =
    let cost = ap (λ (x : WEdge). x.cost) c.edge-edge.ensures.value in
    let between = ap (λ (x : WEdge). weight_between (forest_of c.args.self.now) x.u x.v) c.edge-edge.ensures.value in
    omega (arith, ints, c.from.ensures, c.load_between.ensures.value, c.load_between.ensures.small, cost, between)
