use Rattle.std.proofs.Common.{rules, ◌≡◌, ◌∷◌, [], ◌++◌, arith}
use Rattle.{std.proofs.lemmas.Grind.common_steps, qm_forest.proofs.Waitings.weights_more}

pub loop-k-preserved : Rattle.qm_forest.proofs.forest.Forest.list_set_weights.Goals.loop-k-preserved
loop-k-preserved c =
    let pushed : c.push.new.self.items ≡ c.loop-k.numbers.items ++ c.weight.result ∷ [] = grind (arith, common_steps) in
    record {
      weights = weights_more pushed (search rules) c.loop-k.invariant.weights;
      room = omega (arith, c.loop-k.invariant.room);
    }
