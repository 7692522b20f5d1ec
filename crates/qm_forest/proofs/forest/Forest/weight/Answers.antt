use Rattle.std.proofs.{Common.rules, Common.◌≡◌, Common.ap, Common.arith, lemmas.Int.ints}
use Rattle.def_forest.specs.Tables.{ForestTables, weight_at}
use Rattle.qm_forest.proofs.{TiedWrites.delta_small, forest.Forest.weight.Goals.After-weight_from}
use Rattle.qm_forest.proofs.forest.Forest.weight.Goals as goal

is : (c : After-weight_from) → c.weight_from.result ≡ weight_at c.self.inside.weights.base.items
    c.self.inside.tree.label.items c.self.inside.weights.delta c.args.b
is c = search rules

pub weight_from-requires-clause-delta : goal.weight_from-requires-clause-delta
weight_from-requires-clause-delta c = omega (arith, ints, delta_small c.self.invariant)

pub returns : goal.returns
returns c =
    let seen = ap (λ (t : ForestTables). weight_at t.base t.label t.delta c.args.b) c.self.view_is in
    omega (arith, ints, is (goal.at.returns c).After-weight_from, c.self.invariant.numbers.small c.args.b)
