use Rattle.{std.proofs.Common.rules, std.proofs.lemmas.Result.IfOk-weaker}

pub returns-clause-small : Rattle.qm_forest.proofs.forest.Forest.new.Goals.returns-clause-small
returns-clause-small c = IfOk-weaker c.new_from.result _ _ (λ f weights most above b.
    let least = c.greatest_cost-most.ensures.least most above in
    search rules) c.new_from.ensures.weights
