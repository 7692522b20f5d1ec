use Rattle.std.proofs.Common.{◌≡◌, pos, ◌*ℤ◌, below_more, rules, arith}
use Rattle.std.proofs.lemmas.Int.{ints}
use mir.{Syntax.w128, Val.to_z, Val.of_z}
use Rattle.def_matching.specs.{Matching.edge_at, Dual.dual, Dual.load}
use Rattle.qm_dual.proofs.{Verdicts.short_found, Verdicts.none_short, loads.check_loads.Goals.After-from-cost}
use Rattle.qm_dual.proofs.loads.check_loads.Goals as goal

-- Twice the cost and the load, as they are computed.
told : (c : After-from-cost) → (to_z w128 (of_z w128 (pos 2 *ℤ to_z w128 (of_z w128 c.from-cost.result)))
    ≡ pos 2 *ℤ (edge_at c.args.judged.now.g.now.graph c.loop-k.k).cost)
    × (to_z w128 (of_z w128 c.load_of-load.result) ≡ load c.args.judged.now.g.now.graph.n
    (dual c.args.judged.now.d.whole.now) (edge_at c.args.judged.now.g.now.graph c.loop-k.k))
told c = search rules

pub returns-then-load-cost : goal.returns-then-load-cost
returns-then-load-cost c =
    let (cost, sum) = told (goal.at.returns-then-load-cost c).After-from-cost in
    short_found c.args.judged.now.g.now.graph (dual c.args.judged.now.d.whole.now) c.loop-k.k
    (to_z w128 (of_z w128 c.load_of-load.result))
    (to_z w128 (of_z w128 (pos 2 *ℤ to_z w128 (of_z w128 c.from-cost.result))))
    (omega (arith, c.edge_count-k-end.ensures.value)) c.loop-k.invariant sum cost c.if-load-cost.true

pub loop-k-preserved : goal.loop-k-preserved
loop-k-preserved c =
    let (cost, sum) = told (goal.at.loop-k-preserved c).After-from-cost in
    below_more _ _ c.loop-k.invariant (rw (← cost, ← sum) c.if-load-cost.false)

pub returns : goal.returns
returns c = none_short c.args.judged.now.g.now.graph (dual c.args.judged.now.d.whole.now)
    (to_z w128 (of_z w128 c.sum_of_dual.result))
    (λ j l. c.loop-k.invariant j (omega (arith, c.edge_count-k-end.ensures.value, c.loop-k-test.false, l)))
    (omega (arith, ints, c.sum_of_dual.type_inv, c.sum_of_dual.ensures))
