use Rattle.{std.proofs.Common.arith, std.proofs.Common.◌*◌, qm_match.proofs.Outcomes.at_most_more}

pub returns-clause-bounded : Rattle.qm_match.proofs.matcher.best.Goals.returns-clause-bounded
returns-clause-bounded c = λ most costs. at_most_more (4 * c.args.g.now.graph.n * most) (omega arith)
    (c.run.ensures.bounded most most (c.in_ok-matcher-2.ensures.small most costs) costs)
